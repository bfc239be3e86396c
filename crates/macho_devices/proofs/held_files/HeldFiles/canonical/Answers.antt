use Rattle.std.proofs.Common.{Some, ap, ◌∙◌}
use Rattle.std.specs.Option.{option_map}
use Rattle.std.specs.String.{string_bytes}
use Rattle.macho_devices.specs.declared.held_files.CanonicalPath.{CanonicalPath}
use Rattle.macho_devices.proofs.Lookups.{get_by_path}
use Rattle.macho_devices.proofs.held_files.HeldFiles.canonical.Goals as goal

pub returns-in_ok-from_str-in-Some : goal.returns-in_ok-from_str-in-Some
returns-in_ok-from_str-in-Some c =
    ap Some (c.in_ok-from_str-in-Some.ensures.ok ∙ c.as_str.ensures.value)
    ∙ ap (option_map (λ (entry : CanonicalPath). string_bytes entry.canonical)) c.in-Some.ensures
    ∙ get_by_path (λ (entry : CanonicalPath). string_bytes entry.path) (λ entry. string_bytes entry.canonical)
    c.args.path.now c.args.self.now.canonical_paths.items

pub returns-in-None : goal.returns-in-None
returns-in-None c =
    ap (option_map (λ (entry : CanonicalPath). string_bytes entry.canonical)) c.in-None.ensures
    ∙ get_by_path (λ (entry : CanonicalPath). string_bytes entry.path) (λ entry. string_bytes entry.canonical)
    c.args.path.now c.args.self.now.canonical_paths.items

use Rattle.std.proofs.Common.{Some, ap, ◌∙◌}
use Rattle.std.specs.Option.{option_map}
use Rattle.std.specs.String.{string_bytes}
use Rattle.macho_devices.specs.declared.held_files.HeldFile.{HeldFile}
use Rattle.macho_devices.proofs.Lookups.{get_by_path}
use Rattle.macho_devices.proofs.held_files.HeldFiles.read.Goals as goal

pub returns-in_ok-from_slice-in-Some : goal.returns-in_ok-from_slice-in-Some
returns-in_ok-from_slice-in-Some c =
    ap Some (c.in_ok-from_slice-in-Some.ensures.items ∙ c.as_slice.ensures.value)
    ∙ ap (option_map (λ (file : HeldFile). file.bytes.items)) c.in-Some.ensures
    ∙ get_by_path (λ (file : HeldFile). string_bytes file.path) (λ file. file.bytes.items)
    c.args.path.now c.args.self.now.files.items

pub returns-in-None : goal.returns-in-None
returns-in-None c =
    ap (option_map (λ (file : HeldFile). file.bytes.items)) c.in-None.ensures
    ∙ get_by_path (λ (file : HeldFile). string_bytes file.path) (λ file. file.bytes.items)
    c.args.path.now c.args.self.now.files.items

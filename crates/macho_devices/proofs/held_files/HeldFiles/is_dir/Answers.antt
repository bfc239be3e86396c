use Rattle.std.proofs.Common.{◌∙◌}
use Rattle.std.specs.String.{string_bytes}
use Rattle.macho_devices.proofs.Lookups.{contains_path}
use Rattle.macho_devices.proofs.held_files.HeldFiles.is_dir.Goals as goal

pub returns : goal.returns
returns c = c.names_path.ensures ∙ contains_path string_bytes c.args.path.now c.args.self.now.directories.items

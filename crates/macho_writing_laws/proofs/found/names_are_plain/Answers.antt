use Rattle.macho_writing_laws.proofs.Plain.{imports_plain, imports_tellable, libraries_whole}
use Rattle.macho_writing_laws.proofs.found.names_are_plain.Goals as goal

pub returns : goal.returns
returns c = record { plain = imports_plain; imports = imports_tellable; libraries = libraries_whole }

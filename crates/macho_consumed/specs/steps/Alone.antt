-- The tests of a section's relocations and entries look at the bytes of its object alone: they are those of a link of this one
-- object.
use Rattle.std.specs.Prelude.{ℕ, true, List, [], ◌∷◌, None}
use Rattle.macho_model.specs.Links.{Link, Object, SectionId}

abbrev pub alone : List ℕ → Link
alone b = record {
  executable = true;
  output = [];
  entry = [];
  install_name = [];
  rpaths = [];
  versions = None;
  dead_strip_dylibs = true;
  headerpad = true;
  inputs = Object b ∷ [];
  export_lists = [];
}

-- a section of the object
abbrev pub own : ℕ → SectionId
own k = record { file = 0; section = k }

-- The promise of a whole file.
--
-- What the head says ties the file to the placement and leaves room for the segments; so the parts compose an image, which stands and
-- is accepted. The rest of the promise is what the parts say.
use Rattle.std.proofs.Common.{ℕ, List, length}
use Rattle.macho_model.specs.declared.placed.Counts.{Counts}
use Rattle.macho_model.specs.Links.{Link}
use Rattle.macho_model.specs.Placement.{Placed}
use Rattle.macho_model.specs.Signature.{IsSigned}
use Rattle.macho_model.specs.ImportTable.{LibrariesSay}
use Rattle.macho_commands.specs.Laws.{HeadIsRead}
use Rattle.macho_placed_laws.specs.Agreement.{HeadTies, LibrariesAreSaid, SegmentsHaveRoom}
use Rattle.macho_head.specs.Signing.{SignatureIsSaid}
use Rattle.macho_promise.specs.Promise.{Agrees, Tells}
use Rattle.macho_image_laws.specs.Laws.{ComposedChains, ComposedIsLoadable, IsComposedOf}
use Rattle.macho_image_laws.specs.Template.{HeadersTellTemplate}
use Rattle.macho_image_laws.proofs.Run.{run_by_whole}
use Rattle.macho_promise_laws.specs.Whole.{IsWhole, WholeIsLinked}

-- the laws that the promise rests on
pub record Laws : Type 0 where
  pub ties : HeadTies
  pub libraries : LibrariesAreSaid
  pub room : SegmentsHaveRoom
  pub head : HeadIsRead
  pub signature : SignatureIsSaid
  pub chains : ComposedChains
  pub loadable : ComposedIsLoadable
  pub template : HeadersTellTemplate

agrees : Laws → (l : Link) (counts : Counts) (uuid b : List ℕ) (p : Placed) → IsWhole l counts uuid b p → Agrees l counts b p
agrees laws l counts uuid b p w =
    laws.ties l counts uuid b p w.head.says w.ready.link.objects w.ready.counted w.ready.link.placed w.ready.laid_out w.ready.entry
    w.head.fits

named : Laws → (l : Link) (counts : Counts) (uuid b : List ℕ) (p : Placed) → IsWhole l counts uuid b p → LibrariesSay l b
named laws l counts uuid b p w = laws.libraries l counts uuid b p w.head.says w.head.names

composed : Laws → (l : Link) (counts : Counts) (uuid b : List ℕ) (p : Placed) → IsWhole l counts uuid b p → IsComposedOf l counts uuid b p
composed laws l counts uuid b p w = record {
  link = w.ready.link;
  composed = record {
    head = record {
      says = w.head.says;
      room = laws.room l counts uuid b p w.head.says w.ready.counted w.ready.link.placed w.ready.laid_out w.sealed.size w.ready.segments.1;
      segments = w.ready.segments.0;
    };
    agrees = agrees laws l counts uuid b p w;
    fixups = w.tables.fixups;
    imports = record { table = w.tables.imports; libraries = named laws l counts uuid b p w };
    content = record {
      sections = w.content.sections;
      stubs = w.content.stubs;
      unwind = length w.content.unwind.content;
      unwind_fits = w.content.fits;
      zeros = w.content.zeros;
    };
  };
}

abbrev tells : Laws → (l : Link) (counts : Counts) (uuid b : List ℕ) (p : Placed) → IsWhole l counts uuid b p → Tells l b p
tells laws l counts uuid b p w = record {
  imports = w.tables.imports;
  libraries = named laws l counts uuid b p w;
  exports = w.tables.exports;
  initializers = w.content.initializers;
  template = laws.template l counts b p w.ready.link.objects w.ready.link.placed w.ready.laid_out
      (agrees laws l counts uuid b p w).commands.headers w.ready.template;
  unwind = w.content.unwind;
}

signed : Laws → (l : Link) (counts : Counts) (uuid b : List ℕ) (p : Placed) → IsWhole l counts uuid b p → IsSigned l b
signed laws l counts uuid b p w =
    laws.signature l counts uuid b p w.sealed.signer w.head.says w.ready.counted w.ready.link.placed w.ready.laid_out w.sealed.signs
    w.sealed.size
    w.sealed.stands

-- THE promise
pub whole_is_linked : Laws → WholeIsLinked
whole_is_linked laws l counts uuid b p w = record {
  loadable = laws.loadable l counts uuid b p (composed laws l counts uuid b p w);
  counted = w.ready.counted;
  laid_out = w.ready.laid_out;
  agrees = agrees laws l counts uuid b p w;
  tells = tells laws l counts uuid b p w;
  written = record {
    head = w.head.text;
    fixups = w.tables.fixups.say;
    chain = run_by_whole l b p w.tables.fixups.say (laws.chains l counts uuid b p (composed laws l counts uuid b p w));
    symbols = w.tables.symbols;
    signed = signed laws l counts uuid b p w;
    zeros = w.content.zeros;
  };
}

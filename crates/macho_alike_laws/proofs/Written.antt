-- What an image of one of two links that agree says of itself is what one of the other says: its head, its import table, the words that
-- the loader writes, its symbols, its signature, its unwind information, and which bytes are 0.
use Rattle.std.proofs.Common.{◌≡◌, ℕ, ◌+◌, ◌<◌, List, map, length, refl, sym, ap, subst, ◌∙◌}
use Rattle.macho_bytes.specs.Texts.{Stands}
use Rattle.macho_model.specs.declared.targets.Target.{Target}
use Rattle.macho_model.specs.declared.targets.Target.TheVariants as target
use Rattle.macho_model.specs.declared.placed.Counts.{Counts}
use Rattle.macho_model.specs.Links.{Link}
use Rattle.macho_model.specs.Targets.{target_of_name}
use Rattle.macho_model.specs.Images.{Table, base_of}
use Rattle.macho_model.specs.Placement.{Placed}
use Rattle.macho_model.specs.Stands.{IsAt}
use Rattle.macho_model.specs.Agreement.{EntryAgrees}
use Rattle.macho_model.specs.Head.{HeadSays}
use Rattle.macho_model.specs.ImportTable.{EntrySays, ImportTableSays, names_text}
use Rattle.macho_model.specs.Fixups.{import_entries_of, import_format}
use Rattle.macho_model.specs.Signature.{IsSigned}
use Rattle.macho_model.specs.SymbolEntries.{SymbolsSay}
use Rattle.macho_model.specs.Zeros.{IsZeroElsewhere}
use Rattle.macho_model.specs.Made.{InitOffsetsSay}
use Rattle.macho_fixups.specs.declared.run.Fixup.{Fixup}
use Rattle.macho_fixups.specs.Rows.{table_rows}
use Rattle.macho_promise.specs.FixupsSay.{kind_for, IsFixupOf, slot, pointer, fixup_segments, entry_row, FixupsSay}
use Rattle.macho_promise.specs.UnwindSays.{UnwindSays}
use Rattle.macho_promise.specs.Promise.{Agrees, Tells, IsWritten, IsLinked}
use Rattle.macho_alike_laws.proofs.Inputs.{Agree}
use Rattle.macho_alike_laws.proofs.Views as views
use Rattle.macho_alike_laws.proofs.Parts as parts
use Rattle.macho_alike_laws.proofs.Tables as tables
use Rattle.macho_alike_laws.proofs.Places as places
use Rattle.macho_alike_laws.proofs.Standing as standing
use Rattle.macho_alike_laws.proofs.Exports as exports

module _ (l m : Link) (same : Agree l m) where
  -- ---- load commands

  entry : target_of_name l l.entry ≡ target_of_name m m.entry
  entry = views.named l m same l.entry ∙ ap (target_of_name m) same.entry

  entry_agrees : (b : List ℕ) (p : Placed) → EntryAgrees l b p → EntryAgrees m b p
  entry_agrees b p h = record {
    executable = λ e. let at = h.executable (same.executable ∙ e) in (
      at.0,
      at.1,
      λ s choice. subst (λ (t : Target). IsAt m p s choice t (base_of b + at.0 + s)) entry
          (standing.is_at l m same p s choice (target_of_name l l.entry) (base_of b + at.0 + s) (at.2 s choice)),
    );
    library = λ e. h.library (same.executable ∙ e);
  }

  agrees : (counts : Counts) (b : List ℕ) (p : Placed) → Agrees l counts b p → Agrees m counts b p
  agrees counts b p h = record {
    commands = record {
      segments = h.commands.segments;
      head = h.commands.head;
      headers = h.commands.headers;
      entry = entry_agrees b p h.commands.entry;
    };
    tables = h.tables;
  }

  head_says : (counts : Counts) (uuid b : List ℕ) (p : Placed) → HeadSays l counts uuid b p → HeadSays m counts uuid b p
  head_says counts uuid b p h = record {
    versions = simp same.versions at h.versions;
    trie = h.trie;
    text = subst (λ (t : List ℕ). Stands b (record { at = 0; text = t }))
        (λ i. tables.head l m same p (tables.commands l m same counts p uuid h.trie i) i) h.text;
  }

  -- ---- imports

  entry_says : (b : List ℕ) (t : Table) (k : ℕ) → EntrySays l b t k → EntrySays m b t k
  entry_says b t k h = record {
    library = simp (
      views.libraries l m same,
      views.imports l m same,
      views.definition l m same,
      same.library,
      parts.import_entries l m same,
    ) at h.library;
    weak = h.weak;
    place = simp (views.imports l m same, parts.import_entries l m same) at h.place;
    name = simp (views.imports l m same, parts.import_entries l m same) at h.name;
    addend = simp (parts.import_entries l m same) at h.addend;
  }

  imports_say : (b : List ℕ) → ImportTableSays l b → ImportTableSays m b
  imports_say b h = record {
    table = h.table;
    one = h.one;
    format = h.format ∙ parts.format l m same;
    count = simp (parts.import_entries l m same) at h.count;
    entries = λ k below. entry_says b h.table k (h.entries k (subst (λ n. k < n) (sym count) below));
    names = simp (tables.names_said l m same) at h.names;
  }
    where
      count : length (import_entries_of l) ≡ length (import_entries_of m)
      count = ap length (parts.import_entries l m same)

  -- ---- words that the loader writes

  kind : (p : Placed) (t : Target) (addend : ℕ) → kind_for l p t addend ≡ kind_for m p t addend
  kind p (target.Section file section offset) addend = refl
  kind p (target.Common id) addend = refl
  kind p (target.Import id) addend = simp (parts.import_entries l m same)
  kind p target.Base addend = refl
  kind p (target.Absolute value) addend = refl
  kind p target.None addend = refl

  fixup_of : (p : Placed) (f : Fixup) → IsFixupOf l p f → IsFixupOf m p f
  fixup_of p _ (slot s there) =
      subst (λ k. IsFixupOf m p (record { address = s.address; kind = k })) (sym (kind p s.target 0)) (slot s there)
  fixup_of p _ (pointer q f there of needs) =
      subst (λ k. IsFixupOf m p (record { address = q.address + f.offset; kind = k })) (sym (kind p f.target f.addend))
      (pointer q f there (simp (parts.fields l m same) at of) (simp (same.object, tables.in_template l m same) at needs))

  table_text : (p : Placed) (fixups : List Fixup)
      → table_rows p.base fixups (fixup_segments p) (import_format l) (map (entry_row l) (import_entries_of l)) (names_text l)
      ≡ table_rows p.base fixups (fixup_segments p) (import_format m) (map (entry_row m) (import_entries_of m)) (names_text m)
  table_text p fixups = λ i. table_rows p.base fixups (fixup_segments p) (parts.format l m same i)
      (map (tables.import_row l m same i) (parts.import_entries l m same i)) (tables.names_said l m same i)

  -- ---- the rest of the file

  symbols_say : (counts : Counts) (b : List ℕ) (p : Placed) → SymbolsSay l counts b p → SymbolsSay m counts b p
  symbols_say counts b p h = record {
    entries = h.entries ∙ tables.entries l m same counts p;
    strings = h.strings ∙ tables.strings l m same;
  }

  signed : (b : List ℕ) → IsSigned l b → IsSigned m b
  signed b h = record {
    limit = h.limit;
    size = h.size;
    one = h.one;
    ends = h.ends;
    text = h.text;
    text_is = h.text_is;
    says = simp (same.output, same.executable) at h.says;
  }

  zeros : (b : List ℕ) (p : Placed) (unwind : ℕ) → IsZeroElsewhere l b p unwind → IsZeroElsewhere m b p unwind
  zeros b p unwind h = simp (tables.contents l m same) at h

  unwind_says : (b : List ℕ) (p : Placed) → UnwindSays l b p → UnwindSays m b p
  unwind_says b p h = record {
    content = h.content;
    exact = simp (tables.resolved_same l m same) at h.exact;
    begins = h.begins;
    finds = simp (tables.resolved_same l m same) at h.finds;
  }

  offsets_say : (b : List ℕ) (p : Placed) → InitOffsetsSay l b p → InitOffsetsSay m b p
  offsets_say b p h = simp (parts.initializers l m same) at h

module _ (l m : Link) (same : Agree l m) (back : Agree m l) where
  fixups_say : (b : List ℕ) (p : Placed) → FixupsSay l b p → FixupsSay m b p
  fixups_say b p h = record {
    fixups = h.fixups;
    fits = h.fits;
    are = λ f. (λ there. fixup_of l m same p f ((h.are f).0 there), λ is. (h.are f).1 (fixup_of m l back p f is));
    table = h.table;
    one = h.one;
    text = subst (λ (t : List ℕ). Stands b (record { at = h.table.at; text = t })) (table_text l m same p h.fixups) h.text;
    words = h.words;
  }

  tells : (b : List ℕ) (p : Placed) → Tells l b p → Tells m b p
  tells b p h = record {
    imports = imports_say l m same b h.imports;
    libraries = h.libraries ∙ views.libraries l m same;
    exports = exports.trie_says l m same back b p h.exports;
    initializers = offsets_say l m same b p h.initializers;
    template = h.template;
    unwind = unwind_says l m same b p h.unwind;
  }

  written : (counts : Counts) (uuid b : List ℕ) (p : Placed) (unwind : ℕ) → IsWritten l counts uuid b p unwind
      → IsWritten m counts uuid b p unwind
  unfolding fixups_say
  written counts uuid b p unwind h = record {
    head = head_says l m same counts uuid b p h.head;
    fixups = fixups_say b p h.fixups;
    chain = h.chain;
    symbols = symbols_say l m same counts b p h.symbols;
    signed = signed l m same b h.signed;
    zeros = zeros l m same b p unwind h.zeros;
  }

  -- THE promise of an image
  pub linked : (counts : Counts) (uuid b : List ℕ) (p : Placed) → IsLinked l counts uuid b p → IsLinked m counts uuid b p
  unfolding tells unwind_says
  linked counts uuid b p h = record {
    loadable = standing.loadable l m same counts b p h.loadable;
    counted = exports.counted l m same back counts h.counted;
    laid_out = places.laid_out l m same counts p h.laid_out;
    agrees = agrees l m same counts b p h.agrees;
    tells = tells b p h.tells;
    written = written counts uuid b p (length h.tells.unwind.content) h.written;
  }

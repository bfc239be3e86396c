-- The parts of an image, written one after the other, are the image.
--
-- Contents come first, then each text into its range. What all writes made is one file into which contents and texts were written, and that
-- is an image as promised.
use Rattle.std.proofs.Common.{◌≡◌, ℕ, ◌^◌, ◌<◌, List, length, refl, sym, ap, subst, ◌∙◌, arith}
use Rattle.macho_bytes.specs.Texts.{put}
use Rattle.macho_model.specs.declared.placed.Counts.{Counts}
use Rattle.macho_model.specs.Links.{Link}
use Rattle.macho_model.specs.Placement.{Placed}
use Rattle.macho_model.specs.Addresses.{offset_in_file}
use Rattle.macho_model.specs.Limits.{LIMIT_32}
use Rattle.macho_fixups.specs.declared.run.Fixup.{Fixup}
use Rattle.macho_fields.specs.Faults.{NoneIsBad}
use Rattle.macho_promise_laws.proofs.Nothing.{nothing_passes}
use Rattle.macho_promise_laws.specs.Parts.{written}
use Rattle.macho_promise_laws.specs.Written.{AreContents, Texts, text_parts}
use Rattle.macho_promise_laws.specs.Meaning.{WrittenIsLinked, HeadMeans}
use Rattle.macho_linking.specs.declared.planned.Planned.{Planned}
use Rattle.macho_linking.specs.steps.Planned.{IsPlanned, placement_of, counts_of}
use Rattle.macho_linking.specs.steps.Written.{OffsetsArePut, UnwindIsPut, FixupsArePut, TrieIsPut, SymbolsArePut, HeadIsWritten, SignatureIsPut}
use Rattle.macho_linking.specs.steps.Imaged.{IsImaged}
use Rattle.macho_linking.proofs.Ready.{planned_to_make, planned_chained, planned_ready}

-- The writes, one after the other, from zeros.
pub record Writes (l : Link) (counts : Counts) (uuid : List ℕ) (p : Placed) (run : List Fixup) (b : List ℕ) : Type 0 where
  pub contents : List ℕ
  pub filled : AreContents l p run p.linkedit.signature.end contents
  pub offset_bytes : List ℕ
  pub offsets : OffsetsArePut l p contents offset_bytes
  pub unwind_bytes : List ℕ
  pub unwind : UnwindIsPut l p offset_bytes unwind_bytes
  pub fixup_bytes : List ℕ
  pub fixups : FixupsArePut l p run unwind_bytes fixup_bytes
  pub trie_size : ℕ
  pub trie_bytes : List ℕ
  pub trie : TrieIsPut l p trie_size fixup_bytes trie_bytes
  pub symbol_bytes : List ℕ
  pub symbols : SymbolsArePut l counts p trie_bytes symbol_bytes
  pub head_bytes : List ℕ
  pub head : HeadIsWritten l counts uuid p trie_size symbol_bytes head_bytes
  pub signature : SignatureIsPut l p head_bytes b

abbrev pub texts_of : {l : Link} {counts : Counts} {uuid : List ℕ} {p : Placed} {run : List Fixup} {b : List ℕ}
    → Writes l counts uuid p run b → Texts
texts_of w = record {
  initializers = w.offsets.text;
  unwind = w.unwind.text;
  fixups = w.fixups.text;
  trie = w.trie.text;
  symbols = w.symbols.symbols;
  strings = w.symbols.strings;
  head = w.head.text;
  signature = w.signature.text;
}

-- what was written is what the texts make of the contents
all_written : (l : Link) (counts : Counts) (uuid : List ℕ) (p : Placed) (run : List Fixup) (b : List ℕ) (w : Writes l counts uuid p run b)
    → b ≡ written (text_parts p (texts_of w)) w.contents
all_written l counts uuid p run b w =
    let offsets = w.unwind.is ∙ ap (put (offset_in_file p p.unwind.start) w.unwind.text) w.offsets.is in
    let fixups = w.fixups.is ∙ ap (put p.linkedit.fixups.start w.fixups.text) offsets in
    let trie = w.trie.is ∙ ap (put p.linkedit.trie.start w.trie.text) fixups in
    let symbols = w.symbols.is
    ∙ ap (λ (bs : List ℕ). put p.linkedit.strtab.start w.symbols.strings (put p.linkedit.symtab.start w.symbols.symbols bs)) trie in
    let head = w.head.is ∙ ap (put 0 w.head.text) symbols in
    w.signature.is ∙ ap (put p.linkedit.signature.start w.signature.text) head

-- THE image
pub parts_written : WrittenIsLinked → (l : Link) (b : Planned) (uuid bytes : List ℕ) (run : List Fixup) (fixups : ℕ) → IsPlanned l b
    → NoneIsBad l (placement_of b) → Writes l (counts_of b) uuid (placement_of b) run bytes → fixups ≡ length run
    → IsImaged l (counts_of b) (placement_of b) uuid bytes fixups
parts_written law l b uuid bytes run fixups h good w many = record {
  linked = law l (counts_of b) uuid bytes (placement_of b) (planned_ready l b h) (planned_chained l b h good) (record {
    run = run;
    contents = w.contents;
    texts = texts_of w;
    filled = w.filled;
    is = all_written l (counts_of b) uuid (placement_of b) run bytes w;
    says = (
      record {
        made = record { initializers = w.offsets.fits; unwind = w.unwind.fits };
        fixups = w.fixups.fits;
        trie = w.trie.fits;
        symbols = (w.symbols.fits, w.symbols.fit);
        head = w.head.fits;
        signature = w.signature.fits;
      },
      record {
        fixups = w.fixups.says;
        trie = w.trie.says;
        symbols = w.symbols.says;
        made = record { of_link = planned_to_make l b h; offsets = w.offsets.says; entries = w.unwind.says };
        head = subst (HeadMeans l (counts_of b) uuid (placement_of b) w.head.text) (sym w.trie.long) w.head.says;
        signature = w.signature.says;
      },
    );
  });
  many = many ∙ w.filled.chained.count;
  good = good;
  near = nothing_passes l (counts_of b) (placement_of b) w.offsets.text w.unwind.text (planned_to_make l b h) w.offsets.says w.unwind.says;
}

-- a trie that stands in a file of fewer than 2 ^ 32 bytes has fewer
pub trie_small : (l : Link) (b : Planned) (size : ℕ) (old new : List ℕ) → IsPlanned l b → TrieIsPut l (placement_of b) size old new
    → size < 2 ^ 32
trie_small l b size old new h put =
    let low : (placement_of b).linkedit.trie.end < LIMIT_32 = h.sized.limits.ranges (placement_of b).linkedit.trie (1, omega arith, refl) in
    omega (arith, put.long, put.fits, low)

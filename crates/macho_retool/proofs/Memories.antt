-- The memory of a changed image is the old one, where neither load commands nor signature are mapped.
--
-- A byte is of a chain word, or of a segment where no chain word covers it. Chains and segments are the same. A segment's file byte between
-- load commands and signature is kept, and zeros behind the file bytes are zeros. A chain word is the same word, so it is fixed to the same
-- value: it moves with the same base, or binds the same import, whose address both choices have.
use Rattle.std.proofs.Common.{◌≡◌, ℕ, ◌+◌, ◌*◌, ◌-◌, ◌^◌, ◌%◌, ◌<◌, ◌≤◌, ◌⊎◌, nat_lt, not, Bool, true, false, if◌then◌else◌, List, drop, slice_index, refl, sym, ap, subst, ◌∙◌, arith, inl, inr}
use Rattle.std.specs.Prelude.{Contains, filter}
use Rattle.std.proofs.lemmas.Bool.{ltb-true}
use Rattle.macho_records.specs.ChainedFixupsHeader.{ChainedFixupsHeader}
use Rattle.macho_records.specs.declared.header.SegmentCommand.{SegmentCommand}
use Rattle.macho_bytes.specs.Texts.{name_of}
use Rattle.macho_model.specs.Commands.{Command}
use Rattle.macho_model.specs.Segments.{PAGEZERO}
use Rattle.macho_model.specs.Images.{Table, mapped_segments, is_named, ImportEntry, import_name, import_library_name, table_names}
use Rattle.macho_model.specs.Chain.{IsFileWord, OnChain, OnChainOf}
use Rattle.macho_model.specs.Loader.{is_bind, ordinal_of}
use Rattle.macho_model.specs.Memory.{Choice, chosen, Becomes, Covers, IsChainByte, IsSegmentByte, rebase_target, rebase_high, bind_addend}
use Rattle.macho_retool.specs.declared.change.Change.{Change}
use Rattle.macho_retool.specs.Changes.{new_size}
use Rattle.macho_retool.specs.Retooled.{both_end, IsMappedBetween, BindAlike, ChooseAlike, AreAlikeInMemory}
use Rattle.macho_retool.specs.steps.Spliced.{IsReady, IsSpliced}
use Rattle.macho_retool.proofs.Same.{segments_same, tables_same}
use Rattle.macho_retool.proofs.TablesSame.{header_same, entry_same, names_same}
use Rattle.macho_retool.proofs.Chains.{held_on, table_known, word_forth, word_back, chain_segments_same, chain_forth, chain_back}
use Rattle.macho_retool.proofs.Accepts.{base_same}

-- the words on the chain, of both images as they are
pub on_forth : (change : Change) (b x : List ℕ) (c : Command) (t : Table) (a : ℕ) → IsReady change b c t → IsSpliced change b x c t
    → new_size change < 2 ^ 32 → OnChainOf b a → OnChainOf x a
on_forth change b x c t a ready splice small on =
    subst (λ zs. OnChain zs x a) (sym (chain_segments_same change b x c t ready splice small))
    (chain_forth change b x c t a ready splice on)

pub on_back : (change : Change) (b x : List ℕ) (c : Command) (t : Table) (a : ℕ) → IsReady change b c t → IsSpliced change b x c t
    → new_size change < 2 ^ 32 → OnChainOf x a → OnChainOf b a
on_back change b x c t a ready splice small on =
    chain_back change b x c t a ready splice (subst (λ zs. OnChain zs x a) (chain_segments_same change b x c t ready splice small) on)

mapped_same : (change : Change) (b x : List ℕ) (c : Command) (t : Table) → IsReady change b c t → IsSpliced change b x c t
    → new_size change < 2 ^ 32 → mapped_segments x ≡ mapped_segments b
unfolding mapped_segments
mapped_same change b x c t ready splice small =
    ap (filter (λ s. not (is_named PAGEZERO s))) (segments_same change b x c t ready splice small)

-- a file byte of a segment
byte_same : (change : Change) (b x : List ℕ) (c : Command) (t : Table) (a : ℕ) (s : SegmentCommand) → IsReady change b c t
    → IsSpliced change b x c t → IsMappedBetween b (both_end change b c) t.at a → Contains (mapped_segments b) s → s.vmaddr ≤ a
    → (if nat_lt (a - s.vmaddr) s.filesize then slice_index x (s.fileoff + (a - s.vmaddr)) else 0)
    ≡ (if nat_lt (a - s.vmaddr) s.filesize then slice_index b (s.fileoff + (a - s.vmaddr)) else 0)
byte_same change b x c t a s ready splice mapped there from =
    number_if (nat_lt (a - s.vmaddr) s.filesize) (slice_index x (s.fileoff + (a - s.vmaddr))) (slice_index b (s.fileoff + (a - s.vmaddr)))
    (λ inside.
    let lt = ltb-true (a - s.vmaddr) s.filesize inside in
    let both = mapped s there from (omega (arith, lt, from)) in
    let below = both.1 in
    splice.kept (s.fileoff + (a - s.vmaddr)) both.0 (inl (omega (arith, below))))
  where
    number_if : (v : Bool) (m n : ℕ) → (v ≡ true → m ≡ n) → (if v then m else 0) ≡ (if v then n else 0)
    number_if true m n same = same refl
    number_if false m n same = refl

segment_byte_goes : (change : Change) (b x : List ℕ) (c : Command) (t : Table) (a v : ℕ) → IsReady change b c t
    → IsSpliced change b x c t → new_size change < 2 ^ 32 → IsMappedBetween b (both_end change b c) t.at a → IsSegmentByte b a v
    → IsSegmentByte x a v
segment_byte_goes change b x c t a v ready splice small mapped h =
    record {
      segment = h.segment;
      one = subst (λ ss. Contains ss h.segment) (sym (mapped_same change b x c t ready splice small)) h.one;
      from = h.from;
      to = h.to;
      is = h.is ∙ sym (byte_same change b x c t a h.segment ready splice mapped h.one h.from);
    }

segment_byte_comes : (change : Change) (b x : List ℕ) (c : Command) (t : Table) (a v : ℕ) → IsReady change b c t
    → IsSpliced change b x c t → new_size change < 2 ^ 32 → IsMappedBetween b (both_end change b c) t.at a → IsSegmentByte x a v
    → IsSegmentByte b a v
segment_byte_comes change b x c t a v ready splice small mapped h =
    let there = subst (λ ss. Contains ss h.segment) (mapped_same change b x c t ready splice small) h.one in
    record {
      segment = h.segment;
      one = there;
      from = h.from;
      to = h.to;
      is = h.is ∙ byte_same change b x c t a h.segment ready splice mapped there h.from;
    }

-- an import has the same address where its entry and its name are read in the new image
same_choice : (b x : List ℕ) (j : Choice) (t : Table) (old new : ImportEntry) → new ≡ old → table_names x t ≡ table_names b t
    → chosen j (import_library_name x old) (import_name b t old) ≡ chosen j (import_library_name x new) (import_name x t new)
same_choice b x j t old new entry names =
    ap (λ (e : ImportEntry). chosen j (import_library_name x e) (import_name b t e)) (sym entry)
    ∙ ap (λ (zs : List ℕ). chosen j (import_library_name x new) (name_of (drop new.name_offset zs))) (sym names)

-- what a word becomes
becomes_goes : (change : Change) (b x : List ℕ) (c : Command) (t : Table) (s word value : ℕ) (i j : Choice) (v : Bool)
    → IsReady change b c t → IsSpliced change b x c t → new_size change < 2 ^ 32 → (v ≡ true → BindAlike b i x j word)
    → Becomes b s i word value v → Becomes x s j word value v
becomes_goes change b x c t s word value i j false ready splice small alike h =
    h ∙ ap (λ base. (rebase_target word + rebase_high word * 2 ^ 56 + base + s) % 2 ^ 64) (sym
    (base_same change b x c t ready splice small))
becomes_goes change b x c t s word value i j true ready splice small alike h =
    let both = table_known change b x c t h.table ready splice h.one in
    let entry = entry_same b x h.table (ordinal_of word) both.0 both.1 h.import in
    record {
      table = h.table;
      one = subst (λ us. Contains us h.table) (sym (tables_same change b x c t ready splice small)) h.one;
      import = subst (λ (g : ChainedFixupsHeader). ordinal_of word < g.imports_count) (sym
          (header_same b x h.table both.0 both.1)) h.import;
      address = h.address;
      chooses = sym (alike refl h.table h.one
          ∙ same_choice b x j h.table _ _ entry (names_same b x h.table both.0 both.1)) ∙ h.chooses;
      is = h.is ∙ ap (λ (e : ImportEntry). (h.address + e.addend + bind_addend word) % 2 ^ 64) (sym entry);
    }

becomes_comes : (change : Change) (b x : List ℕ) (c : Command) (t : Table) (s word value : ℕ) (i j : Choice) (v : Bool)
    → IsReady change b c t → IsSpliced change b x c t → new_size change < 2 ^ 32 → (v ≡ true → BindAlike b i x j word)
    → Becomes x s j word value v → Becomes b s i word value v
becomes_comes change b x c t s word value i j false ready splice small alike h =
    h ∙ ap (λ base. (rebase_target word + rebase_high word * 2 ^ 56 + base + s) % 2 ^ 64) (base_same change b x c t ready splice small)
becomes_comes change b x c t s word value i j true ready splice small alike h =
    let there = subst (λ us. Contains us h.table) (tables_same change b x c t ready splice small) h.one in
    let both = table_known change b x c t h.table ready splice there in
    let count = subst (λ (g : ChainedFixupsHeader). ordinal_of word < g.imports_count) (header_same b x h.table both.0 both.1) h.import in
    let entry = entry_same b x h.table (ordinal_of word) both.0 both.1 count in
    record {
      table = h.table;
      one = there;
      import = count;
      address = h.address;
      chooses = alike refl h.table there
          ∙ same_choice b x j h.table _ _ entry (names_same b x h.table both.0 both.1) ∙ h.chooses;
      is = h.is ∙ ap (λ (e : ImportEntry). (h.address + e.addend + bind_addend word) % 2 ^ 64) entry;
    }

-- what covers an address
covers_goes : (change : Change) (b x : List ℕ) (c : Command) (t : Table) (w a : ℕ) → IsReady change b c t → IsSpliced change b x c t
    → new_size change < 2 ^ 32 → Covers b w a → Covers x w a
covers_goes change b x c t w a ready splice small h = (on_forth change b x c t w ready splice small h.0, h.1, h.2)

covers_comes : (change : Change) (b x : List ℕ) (c : Command) (t : Table) (w a : ℕ) → IsReady change b c t → IsSpliced change b x c t
    → new_size change < 2 ^ 32 → Covers x w a → Covers b w a
covers_comes change b x c t w a ready splice small h = (on_back change b x c t w ready splice small h.0, h.1, h.2)

chain_byte_goes : (change : Change) (b x : List ℕ) (c : Command) (t : Table) (s a v : ℕ) (i j : Choice) → IsReady change b c t
    → IsSpliced change b x c t → new_size change < 2 ^ 32 → ChooseAlike b i x j a → IsChainByte b s i a v → IsChainByte x s j a v
chain_byte_goes change b x c t s a v i j ready splice small alike h =
    let f = h.fixed in
    record {
      word_at = h.word_at;
      covers = covers_goes change b x c t h.word_at a ready splice small h.covers;
      last = λ other covers. h.last other (covers_comes change b x c t other a ready splice small covers);
      value = h.value;
      fixed = record {
        on = on_forth change b x c t h.word_at ready splice small f.on;
        word = f.word;
        stands = subst (λ zs. IsFileWord zs x h.word_at f.word) (sym (chain_segments_same change b x c t ready splice small))
            (word_forth change b x c t h.word_at f.word ready splice (held_on b h.word_at ready.accepted f.on) f.stands);
        becomes = becomes_goes change b x c t s f.word h.value i j (is_bind f.word) ready splice small
            (λ binds. alike h.word_at f.word h.covers h.last f.stands binds) f.becomes;
      };
      is = h.is;
    }

chain_byte_comes : (change : Change) (b x : List ℕ) (c : Command) (t : Table) (s a v : ℕ) (i j : Choice) → IsReady change b c t
    → IsSpliced change b x c t → new_size change < 2 ^ 32 → ChooseAlike b i x j a → IsChainByte x s j a v → IsChainByte b s i a v
chain_byte_comes change b x c t s a v i j ready splice small alike h =
    let f = h.fixed in
    let on = on_back change b x c t h.word_at ready splice small f.on in
    let covers = covers_comes change b x c t h.word_at a ready splice small h.covers in
    let last = λ (other : ℕ) (there : Covers b other a). h.last other (covers_goes change b x c t other a ready splice small there) in
    let stands = word_back change b x c t h.word_at f.word ready splice (held_on b h.word_at ready.accepted on)
    (subst (λ zs. IsFileWord zs x h.word_at f.word) (chain_segments_same change b x c t ready splice small) f.stands) in
    record {
      word_at = h.word_at;
      covers = covers;
      last = last;
      value = h.value;
      fixed = record {
        on = on;
        word = f.word;
        stands = stands;
        becomes = becomes_comes change b x c t s f.word h.value i j (is_bind f.word) ready splice small
            (λ binds. alike h.word_at f.word covers last stands binds) f.becomes;
      };
      is = h.is;
    }

-- THE memory
pub memory_alike : (change : Change) (b x : List ℕ) (c : Command) (t : Table) → IsReady change b c t → IsSpliced change b x c t
    → new_size change < 2 ^ 32 → AreAlikeInMemory b x (both_end change b c) t.at
memory_alike change b x c t ready splice small =
    record {
      goes = λ s a v i j mapped alike h.
          let slid = h.slid in
          let same : h.a ≡ a = omega (arith, slid) in
          let byte = subst (λ y. IsChainByte b s i y v ⊎ (((w : ℕ) → Covers b w y → ⊥) × IsSegmentByte b y v)) same h.byte in
          record {
            a = a;
            slid = refl;
            byte = elim byte [
              | inl one ↦ inl (chain_byte_goes change b x c t s a v i j ready splice small alike one)
              | inr both ↦ inr (
                λ w covers. both.0 w (covers_comes change b x c t w a ready splice small covers),
                segment_byte_goes change b x c t a v ready splice small mapped both.1,
              )
            ];
          };
      comes = λ s a v i j mapped alike h.
          let slid = h.slid in
          let same : h.a ≡ a = omega (arith, slid) in
          let byte = subst (λ y. IsChainByte x s j y v ⊎ (((w : ℕ) → Covers x w y → ⊥) × IsSegmentByte x y v)) same h.byte in
          record {
            a = a;
            slid = refl;
            byte = elim byte [
              | inl one ↦ inl (chain_byte_comes change b x c t s a v i j ready splice small alike one)
              | inr both ↦ inr (
                λ w covers. both.0 w (covers_goes change b x c t w a ready splice small covers),
                segment_byte_comes change b x c t a v ready splice small mapped both.1,
              )
            ];
          };
    }

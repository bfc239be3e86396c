-- Each load command of a link, with its numbers cut to their fields, is whole: it has the bytes that it says, and is found again where
-- its size fits.
--
-- Names have 16 bytes, and versions fit as the image's head promises. All other numbers are cut, constants, or told by the size.
use Rattle.std.proofs.Common.{◌≡◌, ℕ, ◌%◌, ◌^◌, ◌<◌, Bool, true, false, List, [], ◌∷◌, length, map, get_or, refl, sym, subst, arith, All, inl, inr}
use Rattle.std.specs.Prelude.{if◌then◌else◌, Option, Some, None, IfSome}
use Rattle.std.proofs.lemmas.List.Elements.{All-map, All-append, All-cons, All-nil, All-filter}
use Rattle.std.specs.Str.{bytes_eq}
use Rattle.macho_bytes.specs.Texts.{name_of}
use Rattle.macho_records.specs.Segments.{text_of}
use Rattle.macho_records.specs.declared.header.SectionHeader.{SectionHeader}
use Rattle.macho_records.specs.declared.constants.TheConstants.{LC_CODE_SIGNATURE, LC_DYLD_CHAINED_FIXUPS, LC_DYLD_EXPORTS_TRIE, LC_ID_DYLIB, LC_LOAD_DYLIB, LC_MAIN}
use Rattle.macho_model.specs.declared.placed.Counts.{Counts}
use Rattle.macho_model.specs.declared.placed.PlacedSegment.{PlacedSegment}
use Rattle.macho_model.specs.declared.placed.Range64.{Range64}
use Rattle.macho_model.specs.Links.{Link}
use Rattle.macho_model.specs.Needs.{libraries_needed}
use Rattle.macho_model.specs.Segments.{list_if}
use Rattle.macho_model.specs.Placement.{Placed}
use Rattle.macho_model.specs.Head.{headers_in, range_size}
use Rattle.macho_model.specs.HeadCommands.{HeadCommand, EntryPoint, segment_for, entry_point_for, uuid_for, versions_for, dylinker_for, dylib_for, needed_dylib_for, rpath_for, linkedit_for, symtab_for, commands_for}
use Rattle.macho_commands.specs.steps.Writing.{IsLinkedit}
use Rattle.macho_head_laws.proofs.Cut.{segment_cut, range_cut, range_cut-size, counts_cut, placed_cut, entry_cut, entry_distance}
use Rattle.macho_head_laws.proofs.Alike.{segment_with, headers_cut}
use Rattle.macho_head_laws.proofs.Fits.{IsWhole, IsNamed, segment_whole, entry_point_whole, uuid_whole, versions_whole, dylinker_whole, dylib_whole, rpath_whole, linkedit_whole, symtab_whole}

segments : (l : Link) (p : Placed) → All (λ s. length s.name.0 ≡ 16) p.segments → All IsNamed p.output_sections
    → All IsWhole (map (segment_for (placed_cut l p)) (placed_cut l p).segments)
segments l p named headers =
    All-map IsWhole (segment_for (placed_cut l p)) (placed_cut l p).segments
    (All-map (λ s. IsWhole (segment_for (placed_cut l p) s)) segment_cut p.segments (λ k d lt.
    let s : PlacedSegment = get_or p.segments k d in
    subst (λ (hs : List SectionHeader). IsWhole (segment_with (segment_cut s) hs)) (sym (headers_cut l p s))
    (segment_whole s (headers_in p s) (named k d lt)
    (All-filter (λ h. bytes_eq (name_of h.segname) (text_of s.name)) IsNamed p.output_sections headers))))

entry : (l : Link) (p : Placed) (e : Bool) → All IsWhole (list_if e (entry_point_for l (placed_cut l p) ∷ []))
entry l p false = All-nil IsWhole
entry l p true =
    All-cons IsWhole (entry_point_for l (placed_cut l p)) []
    (subst (λ (n : ℕ). IsWhole (EntryPoint (record { cmd = LC_MAIN; cmdsize = 24; entryoff = n; stacksize = 0 }))) (sym (entry_cut l p))
    (entry_point_whole (entry_distance l p)))
    (All-nil IsWhole)

versions : (v : Option (ℕ × ℕ)) → IfSome v (λ x. (x.0 < 2 ^ 32) × (x.1 < 2 ^ 32)) → All IsWhole (versions_for v)
versions None fit = All-nil IsWhole
versions (Some (minimum, sdk)) fit = versions_whole minimum sdk fit.0 fit.1

own_name : (e : Bool) (name : List ℕ) → IsWhole (if e then dylinker_for else dylib_for LC_ID_DYLIB 1 0 0 name)
own_name true name = dylinker_whole
own_name false name = dylib_whole LC_ID_DYLIB 1 0 0 name (inl refl) (omega arith) (omega arith) (omega arith)

needed_name : (name : List ℕ) → IsWhole (needed_dylib_for name)
needed_name name = dylib_whole LC_LOAD_DYLIB 2 0x054c0000 0x00010000 name (inr refl) (omega arith) (omega arith) (omega arith)

ranged : (number : ℕ) (r : Range64) → IsLinkedit number → IsWhole (linkedit_for number (range_cut r).start (range_size (range_cut r)))
ranged number r known =
    subst (λ (n : ℕ). IsWhole (linkedit_for number (r.start % 2 ^ 32) n)) (sym (range_cut-size r))
    (linkedit_whole number r.start (range_size r) known)

all_four : (a b c d : HeadCommand) → IsWhole a → IsWhole b → IsWhole c → IsWhole d → All IsWhole (a ∷ b ∷ c ∷ d ∷ [])
all_four a b c d one two three four =
    All-cons IsWhole a (b ∷ c ∷ d ∷ []) one
    (All-cons IsWhole b (c ∷ d ∷ []) two (All-cons IsWhole c (d ∷ []) three (All-cons IsWhole d [] four (All-nil IsWhole))))

tables : (l : Link) (counts : Counts) (p : Placed) (trie : ℕ)
    → All IsWhole (linkedit_for LC_DYLD_CHAINED_FIXUPS (range_cut p.linkedit.fixups).start (range_size (range_cut p.linkedit.fixups))
    ∷ linkedit_for LC_DYLD_EXPORTS_TRIE (p.linkedit.trie.start % 2 ^ 32) (trie % 2 ^ 32) ∷ symtab_for (counts_cut counts) (placed_cut l p)
    ∷ linkedit_for LC_CODE_SIGNATURE (range_cut p.linkedit.signature).start (range_size (range_cut p.linkedit.signature)) ∷ [])
tables l counts p trie =
    all_four (linkedit_for LC_DYLD_CHAINED_FIXUPS (range_cut p.linkedit.fixups).start (range_size (range_cut p.linkedit.fixups)))
    (linkedit_for LC_DYLD_EXPORTS_TRIE (p.linkedit.trie.start % 2 ^ 32) (trie % 2 ^ 32)) (symtab_for (counts_cut counts) (placed_cut l p))
    (linkedit_for LC_CODE_SIGNATURE (range_cut p.linkedit.signature).start (range_size (range_cut p.linkedit.signature)))
    (ranged LC_DYLD_CHAINED_FIXUPS p.linkedit.fixups (inl refl))
    (linkedit_whole LC_DYLD_EXPORTS_TRIE p.linkedit.trie.start trie (inr (inl refl)))
    (symtab_whole p.linkedit.symtab.start counts.symbols p.linkedit.strtab.start counts.strings)
    (ranged LC_CODE_SIGNATURE p.linkedit.signature (inr (inr refl)))

-- THE commands
pub commands_whole : (l : Link) (counts : Counts) (p : Placed) (uuid : List ℕ) (trie : ℕ)
    → All (λ s. length s.name.0 ≡ 16) p.segments → All IsNamed p.output_sections
    → IfSome l.versions (λ v. (v.0 < 2 ^ 32) × (v.1 < 2 ^ 32))
    → All IsWhole (commands_for l (counts_cut counts) (placed_cut l p) uuid (trie % 2 ^ 32))
unfolding commands_for
commands_whole l counts p uuid trie named headers fit =
    All-append IsWhole _ _
    (All-append IsWhole _ _
    (All-append IsWhole _ _
    (All-append IsWhole _ _
    (All-append IsWhole _ _
    (All-append IsWhole _ _
    (All-append IsWhole _ _ (segments l p named headers) (entry l p l.executable))
    (All-cons IsWhole (uuid_for uuid) [] (uuid_whole uuid) (All-nil IsWhole)))
    (versions l.versions fit))
    (All-cons IsWhole _ [] (own_name l.executable l.install_name) (All-nil IsWhole)))
    (All-map IsWhole needed_dylib_for (libraries_needed l) (λ k d lt.
    needed_name (get_or (libraries_needed l) k d))))
    (All-map IsWhole rpath_for l.rpaths (λ k d lt. rpath_whole (get_or l.rpaths k d))))
    (tables l counts p trie)

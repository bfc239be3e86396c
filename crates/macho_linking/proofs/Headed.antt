-- What the head of a planned link is made of, and that it has its room.
--
-- The entry's name leads to a part of the link, which ends below 2 ^ 64, or to nothing that moves; so its address is told as it is.
-- Symbols and strings fill ranges that end below 2 ^ 32, so their counts are told as they are. The head's bytes end where the parts
-- begin, in the file.
use Rattle.std.proofs.Common.{◌≡◌, ℕ, ◌-◌, ◌<◌, ◌≤◌, ◌^◌, true, List, map, refl, sym, ap, subst, ◌∙◌, arith, Bor, Vec, Global}
use Rattle.macho_model.specs.declared.placed.Counts.{Counts}
use Rattle.macho_model.specs.declared.targets.Target.{Target}
use Rattle.macho_model.specs.Links.{Link}
use Rattle.macho_model.specs.Resolution.{definition_of}
use Rattle.macho_model.specs.Needs.{imports_of}
use Rattle.macho_model.specs.Targets.{definition_target, target_of_name, is_defined}
use Rattle.macho_model.specs.Placement.{Placed}
use Rattle.macho_model.specs.Addresses.{address_of}
use Rattle.macho_model.specs.Signature.{uuid_written}
use Rattle.macho_promise.specs.Sizes.{counts_with}
use Rattle.macho_symbols.specs.Kept.{IsResolved}
use Rattle.macho_fields.specs.Looks.{Look, TellsAddresses}
use Rattle.macho_head.specs.declared.commands.HeadParts.{HeadParts}
use Rattle.macho_head.specs.Heads.{AreHeadParts, head_bytes, HeadIsPut}
use Rattle.macho_promise_laws.proofs.Heads.{heads_room}
use Rattle.macho_promise_laws.proofs.Inside.{names_have}
use Rattle.macho_promise_laws.proofs.FoundPlaces.{places_low}
use Rattle.macho_promise_laws.proofs.Plain.{libraries_whole}
use Rattle.macho_promise_laws.proofs.FoundSizes.{ranges_suffice}
use Rattle.macho_linking.specs.declared.planned.Planned.{Planned}
use Rattle.macho_linking.specs.steps.Planned.{IsPlanned, IsLooked, placement_of, counts_of}
use Rattle.macho_linking.specs.steps.Written.{HeadIsWritten}
use Rattle.macho_linking.specs.steps.Sealing.{entry_said}
use Rattle.macho_linking.proofs.Ready.{planned_within}

-- what a name leads to has a low address
entry_low : (l : Link) (b : Planned) → IsPlanned l b → is_defined (target_of_name l l.entry) ≡ true
    → address_of (placement_of b) (target_of_name l l.entry) < 2 ^ 64
entry_low l b h defined =
    places_low l (counts_of b) (placement_of b) (target_of_name l l.entry) h.sized.placed (planned_within l b h)
    (names_have l (imports_of l) l.entry h.inputs.rules.0 defined)

-- THE entry
pub entry_is : (l : Link) (b : Planned) (look : Look) (t : Target) (n said : ℕ) (shown : List ℕ) → IsLooked l b look
    → shown ≡ b.linker.now.entry
    → ((m : Link) (noted : List (List ℕ)) → IsResolved m noted b.read.now.needs.resolved
    → t ≡ definition_target m noted shown (definition_of m shown))
    → ((p : Placed) → TellsAddresses p look → (is_defined t ≡ true → address_of p t < 2 ^ 64) → n ≡ address_of p t)
    → said ≡ n - (placement_of b).base
    → said ≡ entry_said l (placement_of b)
entry_is l b look t n said shown h of_linker leads stands is =
    let name : shown ≡ l.entry = of_linker ∙ sym (ap (λ (k : Link). k.entry) h.planned.inputs.arguments) in
    let named : t ≡ target_of_name l l.entry =
    leads l (imports_of l) h.planned.read.resolved ∙ ap (target_of_name l) name in
    let low : is_defined t ≡ true → address_of (placement_of b) t < 2 ^ 64 =
    λ defined.
    subst (λ (u : Target). address_of (placement_of b) u < 2 ^ 64) (sym named)
    (entry_low l b h.planned (subst (λ (u : Target). is_defined u ≡ true) named defined)) in
    is ∙ ap (λ (m : ℕ). m - (placement_of b).base)
    (stands (placement_of b) h.tells.addresses low ∙ ap (address_of (placement_of b)) named)

-- counts are told as they are
pub symbols_low : (l : Link) (b : Planned) → IsPlanned l b → (counts_of b).symbols < 2 ^ 32
unfolding counts_with
symbols_low l b h =
    let kept = ranges_suffice l (counts_of b) (placement_of b) h.sized.placed h.sized.counted in
    let end = h.sized.limits.ranges (placement_of b).linkedit.symtab (2, omega arith, refl) in
    let many = ap (λ (c : Counts). c.symbols) h.sized.counted.are in
    omega (arith, kept.symbols, end, many)

pub strings_low : (l : Link) (b : Planned) → IsPlanned l b → (counts_of b).strings < 2 ^ 32
unfolding counts_with
strings_low l b h =
    let kept = ranges_suffice l (counts_of b) (placement_of b) h.sized.placed h.sized.counted in
    let end = h.sized.limits.ranges (placement_of b).linkedit.strtab (3, omega arith, refl) in
    let many = ap (λ (c : Counts). c.strings) h.sized.counted.are in
    omega (arith, kept.strings, end, many)

-- what the head is made of, beside what the linker shows
pub record IsHeadOf (b : Planned) (head : HeadParts) : Type 0 where
  pub executable : head.executable ≡ b.linker.now.executable
  pub versions : head.versions ≡ b.linker.now.versions
  pub install_name : head.install_name.now ≡ b.linker.now.install_name
  pub libraries : head.libraries ≡ b.libraries
  pub rpaths : map (λ path. path.items) head.rpaths.now ≡ b.linker.now.rpaths
  pub symbols : head.symbols ≡ (counts_of b).symbols
  pub strings : head.strings_size ≡ (counts_of b).strings

pub head_parts : (l : Link) (b : Planned) (head : HeadParts) (uuid : List ℕ) → IsPlanned l b → IsHeadOf b head
    → head.entry ≡ entry_said l (placement_of b) → head.uuid ≡ uuid_written uuid → AreHeadParts l (counts_of b) uuid (placement_of b) head
head_parts l b head uuid h of_plan is stamp = record {
  executable = of_plan.executable ∙ sym (ap (λ (k : Link). k.executable) h.inputs.arguments);
  entry = is;
  uuid_is = stamp;
  versions = of_plan.versions ∙ sym (ap (λ (k : Link). k.versions) h.inputs.arguments);
  install_name = of_plan.install_name ∙ sym (ap (λ (k : Link). k.install_name) h.inputs.arguments);
  libraries = ap (λ (xs : Bor (List (Vec ℕ Global))). map (λ n. n.items) xs.now) of_plan.libraries ∙ h.inputs.libraries;
  rpaths = of_plan.rpaths ∙ sym (ap (λ (k : Link). k.rpaths) h.inputs.arguments);
  symbols = of_plan.symbols;
  strings = of_plan.strings;
}

-- what is owed to the writer of the head
pub record HeadIsOwed (p : Placed) (head : HeadParts) : Type 0 where
  pub small : head_bytes p head < 2 ^ 32
  pub room : head_bytes p head ≤ p.linkedit.signature.end

pub head_owed : (l : Link) (b : Planned) (head : HeadParts) (uuid : List ℕ) → IsPlanned l b
    → AreHeadParts l (counts_of b) uuid (placement_of b) head → HeadIsOwed (placement_of b) head
head_owed l b head uuid h parts =
    let fits = heads_room l (counts_of b) uuid (placement_of b) head h.sized.placed (planned_within l b h) h.sized.counted parts in
    record {
      small = omega (arith, fits.room, fits.inside, fits.small);
      room = omega (arith, fits.room, fits.inside);
    }

-- THE head
pub head_written : (l : Link) (b : Planned) (head : HeadParts) (uuid : List ℕ) (before now : List ℕ) → IsPlanned l b
    → AreHeadParts l (counts_of b) uuid (placement_of b) head → HeadIsPut l (counts_of b) uuid (placement_of b) head before now
    → HeadIsWritten l (counts_of b) uuid (placement_of b) head.trie_size before now
head_written l b head uuid before now h parts said =
    let fits = heads_room l (counts_of b) uuid (placement_of b) head h.sized.placed (planned_within l b h) h.sized.counted parts in
    record {
      text = said.text;
      is = said.put_is;
      fits = omega (arith, said.long, fits.room);
      says = record {
        parts = head;
        of_link = (parts, refl);
        long = said.long;
        is = said.is;
        versions = said.versions;
        header = said.header;
        commands = said.commands;
        names = libraries_whole l h.inputs.rules.1;
      };
    }

use Rattle.std.proofs.Common.{◌≡◌, ap, sym, subst, ◌∙◌, List, ℕ}
use Rattle.macho_export_lists.specs.Entries.{ListEntries, texts_of}
use Rattle.macho_export_lists.specs.steps.Indexed.{IsIndexed}
use Rattle.macho_export_lists.specs.steps.Lists.{ArePlaces}
use Rattle.macho_export_lists.proofs.Adding.{text_more, taken_off, count_of, same_entries}
use Rattle.macho_export_lists.proofs.Indexed.{indexed_front}
use Rattle.macho_export_lists.proofs.Places.{places_front}
use Rattle.macho_export_lists.proofs.list.ExportList.add.Goals as goal

pub invariant_of-self : goal.invariant_of-self
invariant_of-self c =
    let plain : texts_of c.self.inside.plain.items ≡ c.args.self.now.plain = ap (λ (e : ListEntries). e.plain) c.self.view_is in
    let patterns : texts_of c.self.inside.patterns.items ≡ c.args.self.now.patterns = ap (λ (e : ListEntries). e.patterns) c.self.view_is in
    let now = ap (λ (e : ListEntries). e.plain) c.self-2.view_is ∙ c.in-Err.ensures.longer.adds.plain in
    let there = ap (λ (e : ListEntries). e.patterns) c.self-2.view_is ∙ c.in-Err.ensures.longer.adds.patterns in
    let first = count_of c.self.inside.plain c.args.self.now.plain c.len-plain.result c.len-plain.ensures plain in
    let second = count_of c.self.inside.patterns c.args.self.now.patterns c.len-patterns.result c.len-patterns.ensures patterns in
    let names = ap texts_of c.truncate.ensures.items
    ∙ taken_off c.self-2.inside.plain.items c.args.self.now.plain _ c.len-plain.result now first in
    let stars = ap texts_of c.truncate-in-Err.ensures.items
    ∙ taken_off c.self-2.inside.patterns.items c.args.self.now.patterns _ c.len-patterns.result there second in
    let places = subst (λ (vs : List (List ℕ)). ArePlaces vs c.self-2.inside.places) now c.self-2.invariant.0 in
    let indexed = subst (λ (vs : List (List ℕ)). IsIndexed vs c.self-2.inside.table) there c.self-2.invariant.1 in (
      subst (λ (vs : List (List ℕ)). ArePlaces vs c.self-2.inside.places) (sym names)
          (places_front c.args.self.now.plain _ c.self-2.inside.places places),
      subst (λ (vs : List (List ℕ)). IsIndexed vs c.self-2.inside.table) (sym stars)
          (indexed_front c.args.self.now.patterns _ c.self-2.inside.table indexed),
    )

pub returns-in-Err-clause-kept : goal.returns-in-Err-clause-kept
returns-in-Err-clause-kept c =
    let plain : texts_of c.self.inside.plain.items ≡ c.args.self.now.plain = ap (λ (e : ListEntries). e.plain) c.self.view_is in
    let patterns : texts_of c.self.inside.patterns.items ≡ c.args.self.now.patterns = ap (λ (e : ListEntries). e.patterns) c.self.view_is in
    let now = ap (λ (e : ListEntries). e.plain) c.self-2.view_is ∙ c.in-Err.ensures.longer.adds.plain in
    let there = ap (λ (e : ListEntries). e.patterns) c.self-2.view_is ∙ c.in-Err.ensures.longer.adds.patterns in
    let first = count_of c.self.inside.plain c.args.self.now.plain c.len-plain.result c.len-plain.ensures plain in
    let second = count_of c.self.inside.patterns c.args.self.now.patterns c.len-patterns.result c.len-patterns.ensures patterns in
    same_entries _ _ c.args.self.now
    (ap texts_of c.truncate.ensures.items ∙ taken_off c.self-2.inside.plain.items c.args.self.now.plain _ c.len-plain.result now first)
    (ap texts_of c.truncate-in-Err.ensures.items
    ∙ taken_off c.self-2.inside.patterns.items c.args.self.now.patterns _ c.len-patterns.result there second)

pub returns-clause-added : goal.returns-clause-added
returns-clause-added c texts list = text_more texts c.args.text.now c.args.self.now c.add_lines.new.self list c.in_default.ensures.added

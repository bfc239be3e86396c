-- From the reading of an item's lines to its tree: each key line is an entry, and a line with a dash begins an item.
-- The lines that follow finish the text from where this line leaves the reading: so there are trees of entries and
-- items for them (`Rest`). By what the key of the line is, its value with the lines under it is a flow list or is
-- skipped, and the entry stands in front of the others (`item_key_line_rest`). A line with a dash is spelled with the
-- spaces before and behind the dash, and the key behind them is the first entry of an item in front of the next ones
-- (`first_line_rest`).
use Rattle.std.proofs.Common.{◌≡◌, ℕ, ◌+◌, List, ◌∷◌, ◌++◌, drop, replicate, Some, Ok, refl, ap, ◌∙◌, inl, inr, subst}
use Rattle.macho_stub_lines.specs.declared.keys.ItemKind.{ItemKind}
use Rattle.macho_stub_lines.specs.declared.keys.ItemKey.{ItemKey}
use Rattle.macho_stub_lines.specs.declared.keys.ItemKey.TheVariants as item
use Rattle.macho_stub_lines.specs.declared.fault.StubRule.TheVariants.{S1, S3}
use Rattle.macho_stub_lines.specs.Bytes.{space, dash, indent, has_dash}
use Rattle.macho_stub_lines.specs.Keys.{entry_at, item_key}
use Rattle.macho_stub.specs.Documents.{ItemFields, DocumentFields}
use Rattle.macho_stub.specs.steps.Opened.{OpenItemFields, OpenDocumentFields, no_item, has_key, with_key}
use Rattle.macho_stub.specs.steps.Reader.{ItemListFields, InsideFields, names_value, item_entry, item_key_line, key_column, first_line}
use Rattle.macho_stub_lines.specs.ReadLists.{ReadLine}
use Rattle.macho_stub.proofs.Readings.{IsItemEntry, ItemEntries, ItemTree, items_then, ItemValue, entries_then}
use Rattle.macho_stub_lines.proofs.Bind.{bind_ok, not_broken, not_broken_else}
use Rattle.macho_stub.proofs.Rest.{RestItem, RestItems, RestInside}
use Rattle.macho_stub.proofs.FoundEntries.{names_value_rest, skipped_value_rest}
use Rattle.macho_stub.proofs.Spelled.{spelled_dash}

-- a key line of an item, and the lines behind it
pub record RestItemEntry (before : List DocumentFields) (document : OpenDocumentFields) (list : ItemListFields) (line : ℕ) (text : List ℕ)
    (rest : List ReadLine) (total : List DocumentFields) : Type 0 where
  pub more : List ReadLine
  pub after : OpenItemFields
  pub tail : List ReadLine
  pub lines_of : rest ≡ more ++ tail
  pub is_entry : IsItemEntry list.kind list.column (record { number = line; head = text; more = more }) list.item after
  pub keys : RestItem before document (record list { item = after }) tail total

-- what a value leads to
record RestItemValue (before : List DocumentFields) (document : OpenDocumentFields) (list : ItemListFields) (line : ℕ) (text : List ℕ)
    (key : ItemKey) (value : List ℕ) (rest : List ReadLine) (total : List DocumentFields) : Type 0 where
  more : List ReadLine
  after : OpenItemFields
  tail : List ReadLine
  lines_of : rest ≡ more ++ tail
  is_value : ItemValue list.column key value (record { number = line; head = text; more = more }) list.item after
  keys : RestItem before document (record list { item = after }) tail total

item_entry_rest : (before : List DocumentFields) (document : OpenDocumentFields) (list : ItemListFields) (line : ℕ) (text : List ℕ)
    (key : ItemKey) (value : List ℕ) (inside : InsideFields) (rest : List ReadLine) (total : List DocumentFields)
    → item_entry document list line key value ≡ Ok inside → RestInside before inside rest total
    → RestItemValue before document list line text key value rest total
item_entry_rest before document list line text item.Unread value inside rest total e h =
    elim (skipped_value_rest before document (Some list) line value inside rest total e h) [
      | inl r ↦ record {
        more = r.more;
        after = list.item;
        tail = r.tail;
        lines_of = r.lines_of;
        is_value =
            (inl (r.names, r.is_list), refl);
        keys = r.keys;
      }
      | inr r ↦ record {
        more = r.1.more;
        after = list.item;
        tail = r.1.tail;
        lines_of = r.1.lines_of;
        is_value =
            (inr (r.0, r.1.belong), refl);
        keys = r.1.keys;
      }
    ]
item_entry_rest before document list line text item.Targets value inside rest total e h =
    let b = not_broken (has_key item.Targets list.item) line S3 (names_value document (Some list) line item.Targets value) inside e in
    let r = names_value_rest before document (Some list) line item.Targets value inside rest total b.1 h in
    record {
      more = r.more;
      after = with_key item.Targets r.names list.item;
      tail = r.tail;
      lines_of = r.lines_of;
      is_value = record
          { first_time = b.0; names = r.names; list = r.is_list; gives = refl };
      keys = r.keys;
    }
item_entry_rest before document list line text item.Names value inside rest total e h =
    let b = not_broken (has_key item.Names list.item) line S3 (names_value document (Some list) line item.Names value) inside e in
    let r = names_value_rest before document (Some list) line item.Names value inside rest total b.1 h in
    record {
      more = r.more;
      after = with_key item.Names r.names list.item;
      tail = r.tail;
      lines_of = r.lines_of;
      is_value = record
          { first_time = b.0; names = r.names; list = r.is_list; gives = refl };
      keys = r.keys;
    }
item_entry_rest before document list line text item.WeakNames value inside rest total e h =
    let b = not_broken (has_key item.WeakNames list.item) line S3 (names_value document (Some list) line item.WeakNames value) inside e in
    let r = names_value_rest before document (Some list) line item.WeakNames value inside rest total b.1 h in
    record {
      more = r.more;
      after = with_key item.WeakNames r.names list.item;
      tail = r.tail;
      lines_of = r.lines_of;
      is_value = record
          { first_time = b.0; names = r.names; list = r.is_list; gives = refl };
      keys = r.keys;
    }

-- a key line of an item is an entry, and what is left finishes the text behind it
pub item_key_line_rest : (before : List DocumentFields) (document : OpenDocumentFields) (list : ItemListFields) (line : ℕ) (text : List ℕ)
    (inside : InsideFields) (rest : List ReadLine) (total : List DocumentFields)
    → item_key_line document list line text ≡ Ok inside → RestInside before inside rest total
    → RestItemEntry before document list line text rest total
unfolding item_key_line
item_key_line_rest before document list line text inside rest total e h =
    let b = bind_ok (entry_at line text) (λ entry. item_entry document list line (item_key list.kind entry.key) entry.value) inside e in
    let r = item_entry_rest before document list line text (item_key list.kind b.0.key) b.0.value inside rest total b.2 h in
    record {
      more = r.more;
      after = r.after;
      tail = r.tail;
      lines_of = r.lines_of;
      is_entry = record
          { said = b.0; key = b.1; value = r.is_value };
      keys = r.keys;
    }

-- the line of an item's dash, behind other items
pub first_line_rest : (before : List DocumentFields) (document : OpenDocumentFields) (kind : ItemKind) (items : List ItemFields)
    (line : ℕ) (text : List ℕ) (inside : InsideFields) (rest : List ReadLine) (total : List DocumentFields)
    → first_line document kind items line text ≡ Ok inside → RestInside before inside rest total
    → RestItems before document kind items (indent text) (record { number = line; text = text } ∷ rest) total
unfolding first_line
first_line_rest before document kind items line text inside rest total e h =
    let list : ItemListFields = record { kind = kind; items = items; dash = indent text; column = key_column text; item = no_item } in
    let b = not_broken_else (has_dash text) line S1 (item_key_line document list line (drop (key_column text) text)) inside e in
    let r = item_key_line_rest before document list line (drop (key_column text) text) inside rest total b.1 h in
    let s = spelled_dash text b.0 in
    let tree : ItemTree = record {
      gap = s.gap;
      first = record { number = line; head = drop (key_column text) text; more = r.more };
      others = r.keys.entries;
    } in
    let column : key_column text ≡ indent text + 1 + s.gap = s.column in
    let E : ℕ → Type 0 = λ c. ItemEntries kind c (tree.first ∷ tree.others) no_item r.keys.after in
    let L : ℕ → Type 0 = λ c. record { number = line; text = text } ∷ rest
    ≡ record { number = line; text = replicate (indent text) space ++ dash ∷ (replicate s.gap space ++ drop (key_column text) text) }
    ∷ (r.more ++ entries_then c r.keys.entries (items_then (indent text) r.keys.trees r.keys.tail)) in
    record {
      tree = tree;
      trees = r.keys.trees;
      one = r.keys.one;
      says = r.keys.says;
      tail = r.keys.tail;
      lines_of = subst L column (ap (λ t. record { number = line; text = t } ∷ rest) s.spelled
          ∙ ap (λ (more : List ReadLine). record
          { number = line; text = replicate (indent text) space ++ dash ∷ (replicate s.gap space ++ drop (key_column text) text) } ∷ more)
          (r.lines_of ∙ ap (λ (tail : List ReadLine). r.more ++ tail) r.keys.lines_of));
      are_items = (
        record {
          spaced = s.some;
          read = r.keys.after;
          entries = subst E column (r.after, r.is_entry, r.keys.reads);
          whole =
              r.keys.is_whole;
        },
        r.keys.items,
      );
      top = r.keys.top;
    }

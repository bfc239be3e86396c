-- What a planned link gives each writer: nothing passes a limit, all has its place, and every premise of the passes holds.
--
-- planned_within        no limit is passed
-- planned_soundly       the sound link is placed
-- planned_to_make       its consumed sections can be made
-- planned_of_link       its look-ups are its own
-- planned_looked        the look-ups that are made of it tell of it
-- planned_to_table      names and symbols have addresses of 64 bits
-- planned_entries       there are no more import entries than words number
-- planned_chained       its words can be written where nothing stands against them
-- planned_ready         an image of it can be whole
-- planned_to_fill, planned_sections, planned_stubs, planned_symbols      its sections and stubs can be filled
use Rattle.std.proofs.Common.{◌≡◌, ℕ, ◌<◌, ◌≤◌, ◌⊎◌, inl, inr, List, length, refl, sym, ap, subst, get_or, Option, Some, None}
use Rattle.std.proofs.lemmas.Bool.{cases_lt}
use Rattle.std.specs.Prelude.{◌^◌}
use Rattle.macho_model.specs.declared.placed.Counts.{Counts}
use Rattle.macho_model.specs.declared.targets.Limit.TheVariants as limit
use Rattle.macho_model.specs.Links.{Link}
use Rattle.macho_model.specs.Needs.{imports_of}
use Rattle.macho_model.specs.Targets.{target_of}
use Rattle.macho_model.specs.Fixups.{import_entries_of}
use Rattle.macho_layout_laws.specs.Laws.{NonePasses}
use Rattle.macho_object.specs.Views.{FileBytes}
use Rattle.macho_promise.specs.Sizes.{counts_with}
use Rattle.macho_fields.specs.Looks.{Look}
use Rattle.macho_symbol_tables.proofs.Whole.{links_lead}
use Rattle.macho_refusal_laws.proofs.Refusals.{personalities_are_fit}
use Rattle.macho_promise_laws.specs.Premises.{IsSoundlyPlaced}
use Rattle.macho_promise_laws.proofs.Placed.{things_found, laid_out, link_placed}
use Rattle.macho_promise_laws.proofs.Segments.{segments_rise, segments_end}
use Rattle.macho_promise_laws.proofs.Pointers.{pointers_stand}
use Rattle.macho_promise_laws.proofs.Template.{templates_tight}
use Rattle.macho_promise_laws.proofs.Inside.{symbols_have, names_have}
use Rattle.macho_promise_laws.proofs.FoundPlaces.{places_low}
use Rattle.macho_promise_laws.proofs.Slots.{slots_stand}
use Rattle.macho_promise_laws.proofs.Stubs.{stubs_stand}
use Rattle.macho_promise_laws.proofs.Rows.{stubs_follow}
use Rattle.macho_promise_laws.proofs.Files.{parts_stand}
use Rattle.macho_promise_laws.specs.Made.{IsToMake}
use Rattle.macho_promise_laws.specs.Places.{AreOfLink}
use Rattle.macho_promise_laws.specs.Chaining.{CanBeChained}
use Rattle.macho_fields.specs.Faults.{NoneIsBad}
use Rattle.macho_promise_laws.specs.Fitting as fitting
use Rattle.macho_promise_laws.proofs.Fit.{sections_have_room, stubs_have_room, symbols_are_known}
use Rattle.macho_symbol_tables.specs.Placed.{AddressesFit, IsToTable}
use Rattle.macho_promise_laws.specs.Whole.{IsReady}
use Rattle.macho_linking.specs.declared.planned.Planned.{Planned}
use Rattle.macho_linking.specs.steps.Planned.{IsPlanned, IsLooked, KnowsAll, placement_of, counts_of}

pub planned_within : (l : Link) (b : Planned) → IsPlanned l b → NonePasses l (counts_of b) (placement_of b)
planned_within l b h = record {
  segments = h.sized.limits.numbers limit.Segments;
  sections = h.sized.limits.numbers limit.Sections;
  sum = h.sized.limits.sum;
  files = h.sized.limits.files;
  ranges = h.sized.limits.ranges;
}

pub planned_soundly : (l : Link) (b : Planned) → IsPlanned l b → IsSoundlyPlaced l (counts_of b) (placement_of b)
planned_soundly l b h = record {
  objects = h.inputs.rules.0;
  sound = h.read.fit.sound;
  personalities = personalities_are_fit l h.read.fit.entries;
  placed = h.sized.placed;
  within = planned_within l b h;
}

pub planned_to_make : (l : Link) (b : Planned) → IsPlanned l b → IsToMake l (counts_of b) (placement_of b)
planned_to_make l b h = record {
  objects = h.inputs.rules.0;
  initializers = h.read.fit.initializers;
  entries = h.read.fit.entries;
  counted = h.sized.counted;
  limits = record { sum = h.sized.limits.sum; personalities = h.sized.limits.numbers limit.Personalities };
  placed = h.sized.placed;
}

pub planned_of_link : (l : Link) (b : Planned) → IsPlanned l b → AreOfLink l (counts_of b) (placement_of b) b.read.now.needs b.views.now
planned_of_link l b h = record {
  placed = h.sized.placed;
  noted = h.read.needs;
  resolved = h.read.resolved;
  objects = h.inputs.views;
}

addresses_fit : (l : Link) (b : Planned) → IsPlanned l b → AddressesFit l (placement_of b)
unfolding target_of
addresses_fit l b h = record {
  names = λ name defined. places_low l (counts_of b) (placement_of b) _ h.sized.placed (planned_within l b h)
      (names_have l _ name h.inputs.rules.0 defined);
  symbols = λ s there defined. places_low l (counts_of b) (placement_of b) _ h.sized.placed (planned_within l b h)
      (symbols_have l (imports_of l) s h.inputs.rules.0 there defined);
}

pub planned_to_table : (l : Link) (b : Planned) (look : Look) → IsLooked l b look → IsToTable l (counts_of b) (placement_of b) look
planned_to_table l b look h = record {
  objects = h.planned.inputs.rules.0;
  placed = h.planned.sized.placed;
  tells = h.tells;
  fit = addresses_fit l b h.planned;
}

pub planned_entries : (l : Link) (b : Planned) → IsPlanned l b → length (import_entries_of l) ≤ 2 ^ 24
unfolding counts_with
planned_entries l b h =
    let many : (counts_of b).imports ≡ length (import_entries_of l) = ap (λ (c : Counts). c.imports) h.sized.counted.are in
    by many (cases_lt (2 ^ 24) (length (import_entries_of l)))
  where
    by : (counts_of b).imports ≡ length (import_entries_of l) → (2 ^ 24 < length (import_entries_of l))
        ⊎ (length (import_entries_of l) ≤ 2 ^ 24)
        → length (import_entries_of l) ≤ 2 ^ 24
    by many (inl more) =
        absurd (h.sized.limits.numbers limit.Imports (counts_of b).imports (refl, subst (λ (n : ℕ). 2 ^ 24 < n) (sym many) more))
    by many (inr fits) = fits

pub planned_chained : (l : Link) (b : Planned) → IsPlanned l b → NoneIsBad l (placement_of b)
    → CanBeChained l (counts_of b) (placement_of b)
planned_chained l b h good = record {
  placed = h.sized.placed;
  leads = links_lead l h.inputs.rules.0 h.read.fit.sound (personalities_are_fit l h.read.fit.entries);
  pointers = pointers_stand l (counts_of b) (placement_of b) (planned_soundly l b h) (λ q r there bad. good.place q.file q.section r bad)
      (planned_entries l b h);
  segments = segments_rise l (counts_of b) (placement_of b) h.sized.placed (planned_within l b h);
  encoded = good.rebase;
}

pub planned_ready : (l : Link) (b : Planned) → IsPlanned l b → IsReady l (counts_of b) (placement_of b)
planned_ready l b h = record {
  link = link_placed l (counts_of b) (placement_of b) (planned_soundly l b h);
  counted = h.sized.counted;
  laid_out = laid_out l (counts_of b) (placement_of b) h.sized.placed;
  entry = h.read.fit.entry;
  segments = (
    segments_rise l (counts_of b) (placement_of b) h.sized.placed (planned_within l b h),
    segments_end l (counts_of b) (placement_of b) h.sized.placed (planned_within l b h),
  );
  template = templates_tight l h.sized.planned.plan (counts_of b) (placement_of b) h.sized.planned.of_link h.sized.planned.fits
      h.sized.planned.laid;
}

pub planned_to_fill : (l : Link) (b : Planned) (look : Look) → IsLooked l b look → fitting.AreAllToFill l (placement_of b) b.views.now look
planned_to_fill l b look h = record {
  sections = record {
    sound = h.planned.read.fit.sound;
    found = things_found l (counts_of b) (placement_of b) h.planned.inputs.rules.0 h.planned.sized.placed.placed;
    tells = h.tells;
    listed = h.planned.sized.placed.order.sections;
    objects = h.planned.inputs.views;
    zeros = (links_lead l h.planned.inputs.rules.0 h.planned.read.fit.sound (personalities_are_fit l h.planned.read.fit.entries)).zeros;
  };
  slots = slots_stand l (counts_of b) (placement_of b) (planned_soundly l b h.planned);
  stubs = stubs_stand l (counts_of b) (placement_of b) (planned_soundly l b h.planned);
}

pub planned_sections : (l : Link) (b : Planned) → IsPlanned l b
    → fitting.SectionsFit b.views.now (placement_of b) (placement_of b).linkedit.signature.end
planned_sections l b h =
    let stand = parts_stand l (counts_of b) (placement_of b) h.sized.placed in
    subst (λ (vs : _). fitting.SectionsFit vs (placement_of b) (placement_of b).linkedit.signature.end) (sym h.inputs.views)
    (sections_have_room l (counts_of b) (placement_of b) (placement_of b).linkedit.signature.end h.sized.placed.placed
    h.sized.placed.order.sections
    (segments_end l (counts_of b) (placement_of b) h.sized.placed (planned_within l b h)) (λ k d lt. (stand.sections k d lt).ends))

pub planned_stubs : (l : Link) (b : Planned) → IsPlanned l b → fitting.StubsFit (placement_of b) (placement_of b).linkedit.signature.end
planned_stubs l b h =
    let stand = parts_stand l (counts_of b) (placement_of b) h.sized.placed in
    stubs_have_room (placement_of b) (placement_of b).linkedit.signature.end (stubs_follow l (counts_of b) (placement_of b) h.sized.placed)
    (λ d i lt. (stand.all_stubs d).each i lt) (λ d some. (stand.all_stubs d).ends some)

pub planned_symbols : (l : Link) (b : Planned) (has_symbol : ℕ → ℕ → Type 0) → IsPlanned l b → KnowsAll b has_symbol
    → fitting.AreKnown b.views.now has_symbol
planned_symbols l b has_symbol h knows =
    let known = symbols_are_known l _ b.read.now.needs.resolved h.read.resolved in
    record {
      each = λ k f is s lt. knows k s (known.each k f (subst (λ (vs : List (Option FileBytes)). get_or vs k None ≡ Some f)
          h.inputs.views is) s lt);
    }

-- A placement of one of two links that agree is one of the other: each part of the relation speaks of functions in which they agree.
use Rattle.std.proofs.Common.{◌≡◌, ℕ, not, List, filter, Option, Some, None, sym, ◌∙◌}
use Rattle.macho_model.specs.declared.placed.Counts.{Counts}
use Rattle.macho_model.specs.declared.placed.PlacedSegment.{PlacedSegment}
use Rattle.macho_model.specs.declared.placed.Range64.{Range64}
use Rattle.macho_model.specs.Links.{Link}
use Rattle.macho_model.specs.Segments.{base_of_link}
use Rattle.macho_model.specs.OutputSections.{is_zeros, output_sections_in}
use Rattle.macho_model.specs.Placement.{Placed, IsWholeList, IsInSegment, Follows, HoldsTemplate, TemplateHolds, template_sections, IsPlaced}
use Rattle.macho_model.specs.Order.{AreLeast, row_of}
use Rattle.macho_promise.specs.Promise.{IsLaidOut}
use Rattle.macho_alike_laws.proofs.Inputs.{Agree}
use Rattle.macho_alike_laws.proofs.Views as views
use Rattle.macho_alike_laws.proofs.Parts as parts
use Rattle.macho_alike_laws.proofs.Views.{each_same}

module _ (l m : Link) (same : Agree l m) where
  whole : (p : Placed) → IsWholeList l p → IsWholeList m p
  whole p w = record {
    sections = simp (views.carried l m same) at w.sections;
    commons = simp (views.commons l m same) at w.commons;
    slots = simp (views.slots l m same) at w.slots;
    stubs = simp (views.stubs l m same) at w.stubs;
    stub_slots = simp (views.slots l m same) at w.stub_slots;
  }

  in_segment : (p : Placed) → IsInSegment l p → IsInSegment m p
  in_segment p w = record {
    sections = simp same.object at w.sections;
    commons = simp (same.object, views.commons l m same) at w.commons;
    slots = w.slots;
    stubs = w.stubs;
    ranges = w.ranges;
    linkedit = w.linkedit;
  }

  follows : (s t : PlacedSegment) → Follows l s t → Follows m s t
  follows s t f = record {
    rank = simp (parts.rank l m same) at f.rank;
    address = f.address;
    file_offset = f.file_offset;
  }

  in_template : (p : Placed) → template_sections l p ≡ template_sections m p
  in_template p = simp same.object

  template_held : (counts : Counts) (p : Placed) (r : Range64) → HoldsTemplate l counts p r → HoldsTemplate m counts p r
  template_held counts p r h = record {
    some = simp same.object at h.some;
    holds = simp same.object at h.holds;
    apart = simp (same.object, parts.pieces l m same) at h.apart;
  }

  template : (counts : Counts) (p : Placed) (r : Option Range64) → TemplateHolds l counts p r → TemplateHolds m counts p r
  template counts p None h = sym (in_template p) ∙ h
  template counts p (Some r) h = template_held counts p r h

  base : base_of_link l ≡ base_of_link m
  base = simp same.executable

  -- THE placement relation
  pub placed : (counts : Counts) (p : Placed) → IsPlaced l counts p → IsPlaced m counts p
  placed counts p w = record {
    base = w.base ∙ base;
    whole_list = whole p w.whole_list;
    aligned = simp (parts.pieces l m same) at w.aligned;
    in_segment = in_segment p w.in_segment;
    apart = simp (parts.pieces l m same) at w.apart;
    paged = w.paged;
    follow = λ k x y at next. follows x y (w.follow k x y at next);
    begins = simp same.executable at w.begins;
    template = template counts p p.template w.template;
    within_sum = simp (parts.sum l m same) at w.within_sum;
  }

  -- ---- least places

  row : (counts : Counts) (p : Placed) (s : PlacedSegment) (segment : List ℕ)
      → row_of l counts p s (output_sections_in l counts segment) ≡ row_of m counts p s (output_sections_in m counts segment)
  row counts p s segment = λ i. parts.row l m same counts p s (parts.sections_in l m same counts i segment) i

  data_row : (counts : Counts) (p : Placed) (s : PlacedSegment) (segment : List ℕ)
      → row_of l counts p s (filter (λ o. not (is_zeros o.key)) (output_sections_in l counts segment))
      ≡ row_of m counts p s (filter (λ o. not (is_zeros o.key)) (output_sections_in m counts segment))
  data_row counts p s segment =
      λ i. parts.row l m same counts p s (filter (λ o. not (is_zeros o.key)) (parts.sections_in l m same counts i segment)) i

  least : (counts : Counts) (p : Placed) → AreLeast l counts p → AreLeast m counts p
  least counts p w = record {
    front = w.front;
    rows = simp row at w.rows;
    pieces = simp (parts.output_sections l m same) at w.pieces;
    tables = w.tables;
    sizes = simp row at w.sizes;
    file_sizes = simp data_row at w.file_sizes;
    rooms = w.rooms;
  }

  -- where things are beside it
  pub laid_out : (counts : Counts) (p : Placed) → IsLaidOut l counts p → IsLaidOut m counts p
  laid_out counts p w = record {
    segments = w.segments ∙ parts.segments l m same;
    names = simp (parts.segments l m same) at w.names;
    least = least counts p w.least;
    sections = w.sections ∙ parts.headers l m same counts p;
  }

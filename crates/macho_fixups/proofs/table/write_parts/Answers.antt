use Rattle.std.proofs.Common.{ℕ, ◌*◌, length, ◌≡◌, ◌+◌, arith, ap, sym, ◌∙◌, subst}
use Rattle.std.specs.List.{flat_map}
use Rattle.macho_bytes.specs.Texts.{put}
use Rattle.macho_model.specs.Images.{import_entry_size}
use Rattle.macho_wire.specs.declared.fixups.ChainedFixupsHeader.{ChainedFixupsHeader}
use Rattle.macho_fixups.specs.Tables.{image_starts_text, image_starts_size, entry_text, table_header, table_text}
use Rattle.macho_fixups.proofs.TableTexts.{joined, joined_long, header_long, names_near}
use Rattle.macho_fixups.proofs.TableReading.{table_reads_back}
use Rattle.macho_fixups.proofs.table.write_parts.Goals as goal
use Rattle.macho_bytes.specs.Spellings.{spelling, ReadsBack}
use Rattle.macho_wire.specs.Spellings.{chained_fixups_header_rows}

pub overflow_cast-header-2 : goal.overflow_cast-header-2
overflow_cast-header-2 c =
    omega (
      arith,
      c.write_image_starts-imports_at.ensures.behind,
      (names_near c.args.base c.args.format c.args.fixups.now c.args.segments.now c.args.imports.now c.requires.fits c.requires.entries).0,
    )

pub overflow_cast-header-3 : goal.overflow_cast-header-3
overflow_cast-header-3 c =
    omega (
      arith,
      c.write_image_starts-imports_at.ensures.behind,
      ap (λ (n : ℕ). n * length c.args.imports.now) c.entry_size.ensures,
      (names_near c.args.base c.args.format c.args.fixups.now c.args.segments.now c.args.imports.now c.requires.fits c.requires.entries).1,
    )

pub returns-clause-written : goal.returns-clause-written
unfolding table_text
returns-clause-written c =
    let starts = image_starts_text c.args.base c.args.fixups.now c.args.segments.now in
    let imports = flat_map (entry_text c.args.format) c.args.imports.now in
    let at_imports : c.write_image_starts-imports_at.result ≡ 28 + image_starts_size c.args.fixups.now c.args.segments.now =
    c.write_image_starts-imports_at.ensures.behind in
    let at_names : c.write_image_starts-imports_at.result + c.entry_size.result * length c.args.imports.now
    ≡ 28 + image_starts_size c.args.fixups.now c.args.segments.now + import_entry_size c.args.format * length c.args.imports.now =
    ap (λ (n : ℕ). n + c.entry_size.result * length c.args.imports.now) at_imports
    ∙ ap (λ (n : ℕ). 28 + image_starts_size c.args.fixups.now c.args.segments.now + n * length c.args.imports.now) c.entry_size.ensures in
    let header = table_header c.args.fixups.now c.args.segments.now c.args.format c.args.imports.now in
    c.write.ensures.written
    ∙ ap (λ (h : ChainedFixupsHeader). put 0 (spelling chained_fixups_header_rows h) c.put_text.new.out)
    (ap (λ (n : ℕ). record header { imports_offset = c.write_image_starts-imports_at.result; symbols_offset = n }) at_names
    ∙ ap (λ (n : ℕ). record header { imports_offset = n }) at_imports)
    ∙ ap (put 0 (spelling chained_fixups_header_rows header))
    (c.put_text.ensures ∙ ap (put _ c.args.names.now) (c.write_imports.ensures.written
    ∙ ap (put c.write_image_starts-imports_at.result imports) c.write_image_starts-imports_at.ensures.written))
    ∙ joined 28 c.write_image_starts-imports_at.result (c.write_image_starts-imports_at.result + c.entry_size.result * length
    c.args.imports.now)
    (spelling chained_fixups_header_rows header) starts imports c.args.names.now c.args.out.now
    (sym (header_long header)) (omega (arith, at_imports, c.write_image_starts-imports_at.ensures.long))
    (omega (arith, at_names, at_imports, c.write_imports.ensures.long)) (omega (arith, at_names, c.requires.room))

pub returns-clause-long : goal.returns-clause-long
unfolding table_text
returns-clause-long c =
    omega (
      arith,
      joined_long
          (spelling chained_fixups_header_rows (table_header c.args.fixups.now c.args.segments.now c.args.format c.args.imports.now))
          (image_starts_text c.args.base c.args.fixups.now c.args.segments.now) (flat_map (entry_text c.args.format) c.args.imports.now)
          c.args.names.now,
      c.write_image_starts-imports_at.ensures.long,
      c.write_imports.ensures.long,
      header_long (table_header c.args.fixups.now c.args.segments.now c.args.format c.args.imports.now),
    )

pub returns-clause-read : goal.returns-clause-read
returns-clause-read c =
    let at_imports : c.write_image_starts-imports_at.result ≡ 28 + image_starts_size c.args.fixups.now c.args.segments.now =
    c.write_image_starts-imports_at.ensures.behind in
    let at_names : c.write_image_starts-imports_at.result + c.entry_size.result * length c.args.imports.now
    ≡ 28 + image_starts_size c.args.fixups.now c.args.segments.now + import_entry_size c.args.format * length c.args.imports.now =
    ap (λ (n : ℕ). n + c.entry_size.result * length c.args.imports.now) at_imports
    ∙ ap (λ (n : ℕ). 28 + image_starts_size c.args.fixups.now c.args.segments.now + n * length c.args.imports.now) c.entry_size.ensures in
    let header = table_header c.args.fixups.now c.args.segments.now c.args.format c.args.imports.now in
    let same = ap (λ (n : ℕ). record header { imports_offset = c.write_image_starts-imports_at.result; symbols_offset = n }) at_names
    ∙ ap (λ (n : ℕ). record header { imports_offset = n }) at_imports in
    table_reads_back c.args.base c.args.fixups.now c.args.segments.now c.args.format c.args.imports.now c.args.names.now c.requires.fits
    c.requires.entries c.write_imports.ensures.fits (subst (λ (h : ChainedFixupsHeader). ReadsBack chained_fixups_header_rows h) same
    c.write.ensures.back)
    c.write_image_starts-imports_at.ensures.long (omega (arith, returns-clause-long c))

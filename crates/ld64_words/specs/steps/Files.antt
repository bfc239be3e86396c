-- What is cut so far, in plain lists.
use Rattle.std.specs.Prelude.{map}
use Rattle.ld64_words.specs.declared.cutting.Cutting.{Cutting}
use Rattle.ld64_words.specs.Files.{Cut}

abbrev pub cut_of : Cutting → Cut
cut_of cutting =
    record {
      texts = map (λ text. text.items) cutting.texts.items;
      begun = cutting.begun.items;
      quote = cutting.quote;
      escaped = cutting.escaped;
    }

-- The digests of runs of pages, and the pages that hold a UUID (`cs_blobs.h` of xnu).
use Rattle.std.specs.Prelude.{ℕ, ◌+◌, ◌/◌, List, length}
use Rattle.std.specs.List.{flat_map, range_with_len}
use Rattle.macho_model.specs.WrittenSum.{SIGNED_PAGE}
use Rattle.macho_model.specs.Signature.{page_digest, page_digests}

-- the digests of all pages of some bytes that are signed whole
abbrev pub digests_of : List ℕ → List ℕ
digests_of signed = page_digests signed (length signed)

-- those of so many of these pages, from a first one on
unfoldable pub digests_from : List ℕ → ℕ → ℕ → List ℕ
digests_from signed first count = flat_map (λ k. page_digest signed k (length signed)) (range_with_len first count)

-- the page that holds the first byte of a UUID, and the one that holds its last, by the place of the UUID
abbrev pub first_page : ℕ → ℕ
first_page place = place / SIGNED_PAGE

abbrev pub last_page : ℕ → ℕ
last_page place = (place + 15) / SIGNED_PAGE

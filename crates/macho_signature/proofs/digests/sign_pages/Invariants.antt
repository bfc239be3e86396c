use Rattle.std.proofs.Common.{◌≡◌, ◌+◌, ◌-◌, ◌*◌}
use Rattle.macho_bytes.specs.Texts.{put}
use Rattle.macho_signature.specs.Pages.{digests_from}
use Rattle.macho_signature.proofs.digests.sign_pages.Given as goal

-- the pages so far are signed
abbrev pub invariant-loop-page : goal.invariant-loop-page
invariant-loop-page l = l.signature ≡ put (l.hashes_offset + 32 * l.first) (digests_from l.signed l.first (l.page - l.first))
    l.initial.signature

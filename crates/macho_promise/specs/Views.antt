-- The objects of a link as they are viewed, by the numbers of their files: what is no object has no view. And texts without a NUL.
use Rattle.std.specs.Prelude.{◌≡◌, ◌≢◌, ℕ, ◌<◌, true, false, List, map, Option, Some, None, All}
use Rattle.macho_model.specs.Grammar.{IsObject}
use Rattle.macho_model.specs.Links.{Input, Object, Dylib, Stub, Link}
use Rattle.macho_object.specs.Views.{FileBytes}

abbrev pub object_view : Input → Option FileBytes
object_view (Object bytes) = Some (record { bytes = bytes; is_dynamic = false })
object_view (Dylib bytes) = None
object_view (Stub text says) = None

abbrev pub views_of : Link → List (Option FileBytes)
views_of l = map object_view l.inputs

-- a view is one of an object that keeps the rules of objects
abbrev pub ViewsObject : Option FileBytes → Type 0
ViewsObject None = Unit {0}
ViewsObject (Some f) = IsObject f.bytes × (f.is_dynamic ≡ false)

-- no NUL stands in a text
abbrev pub IsPlain : List ℕ → Type 0
IsPlain text = All (λ c. c ≢ 0) text

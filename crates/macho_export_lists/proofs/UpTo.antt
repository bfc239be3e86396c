-- What holds on one outcome of a call, led on to what it implies.
pub use Rattle.std.proofs.lemmas.Result.{on_ok_weaker as on_ok, on_err_weaker as on_err}

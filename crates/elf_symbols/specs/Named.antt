-- A name of an address.
use Rattle.std.specs.Prelude.{ℕ, List}

pub record Named : Type 0 where
  pub address : ℕ
  pub name : List ℕ

-- What the run asks of the sizes.
use Rattle.std.specs.Prelude.{ℕ, ◌≤◌, ◌≡◌, List}
use Rattle.cover_spec.specs.Marks.{work_needed}
use Rattle.cover_edges.specs.RangeLaws.{InRange}

pub record RunFits (bs : List ℕ) (n groups metas marks work : ℕ) : Type 0 where
  pub few : n ≤ 1048576
  pub inside : InRange bs n groups metas
  pub some : 1 ≤ groups
  pub groups-max : groups ≤ 131072
  pub metas-max : metas ≤ 262144
  pub marks_len : marks ≡ groups
  pub work_len : work_needed groups metas n ≤ work

-- `spelled` meets its contract. Assumes nothing.
use Prim.Native.Nat.{◌+◌, ◌-◌}
use native.Mathlib.Omega.{arith}
use mathlib.Core.Path.{◌≡◌}
use lib.ListN.{get_or}
use lib.Dec.{eqb}
use Rattle.records.specs.Le.{number_at}
use Rattle.digest_groups_words.specs.TableLaws.{spelt-range, spelling_is}
use Rattle.digest_groups_words.proofs.spelling.spelled.Goals as goal

pub overflow_add-to : goal.overflow_add-to
overflow_add-to c =
    let a = c.args in
    let d = a.digest.now in
    let i = c.requires in
    let p : c.place-from.result ≡ get_or a.bounds.now (number_at 4 d 12) 0 + number_at 4 d 0 = cc in
    omega (arith, i.ends, i.rises, i.book.small, c.u32_at-end.ensures, c.u32_at-start.ensures)

pub slice_bounds-word-end : goal.slice_bounds-word-end
slice_bounds-word-end c =
    let a = c.args in
    let d = a.digest.now in
    let i = c.requires in
    let p : c.place-from.result ≡ get_or a.bounds.now (number_at 4 d 12) 0 + number_at 4 d 0 = cc in
    omega (arith, i.ends, i.rises, c.u32_at-end.ensures, c.u32_at-start.ensures)

pub word-word-requires : goal.word-word-requires
word-word-requires c =
    let a = c.args in
    let d = a.digest.now in
    let i = c.requires in
    let p : c.byte_at.result ≡ get_or d 10 0 = c.byte_at.ensures in
    let q : c.byte_at-decoy.result ≡ get_or d 11 0 = c.byte_at-decoy.ensures in
    (omega (arith, c.front-before.ensures, i.place, i.flag), spelt-range (eqb c.byte_at-decoy.result 1) (c.place-from.result + (c.u32_at-end.result - c.u32_at-start.result) - c.place-from.result) c.place-from.result a.letters.now i.book)

pub overflow_cast-result : goal.overflow_cast-result
overflow_cast-result c =
    let a = c.args in
    let d = a.digest.now in
    let i = c.requires in
    let p : c.place-from.result ≡ get_or a.bounds.now (number_at 4 d 12) 0 + number_at 4 d 0 = cc in
    omega (arith, i.ends, i.rises, i.book.small)

pub returns : goal.returns
returns c =
    let a = c.args in
    spelling_is a.bounds.now a.letters.now a.digest.now c.u32_at-start.result c.u32_at-end.result c.byte_at-decoy.result c.u32_at.result
    c.byte_at.result c.place-from.result c.front-before.result c.word-word.result c.size-size.result c.u32_at-start.ensures c.u32_at-end.ensures
    c.byte_at-decoy.ensures c.u32_at.ensures c.byte_at.ensures c.place-from.ensures c.front-before.ensures c.word-word.ensures c.size-size.ensures

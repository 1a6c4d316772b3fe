-- `write_line` meets its contract: the first text, and then the others. Assumes nothing.
use mathlib.Core.Path.{◌≡◌, refl}
use mathlib.Core.List.{[]}
use native.Mathlib.Omega.{arith}
use Rattle.lists.specs.InLaws.{no_places}
use Rattle.sorting_texts.specs.Text.{joined_text}
use Rattle.report_lines_texts.specs.WriteLaws.{Put, texts_of, line-length, line-put, some-starts}
use Rattle.report_lines_texts.proofs.writing.write_line.Goals.{After-write_rest-end}
use Rattle.report_lines_texts.proofs.writing.write_line.Goals as goal

pub returns-then-starts-eq0 : goal.returns-then-starts-eq0
returns-then-starts-eq0 c = let e : c.args.starts.now ≡ [] = no_places c.args.starts.now c.if-starts-eq0.true in (rw e, rw e, rw e)

pub write_text-first-requires : goal.write_text-first-requires
write_text-first-requires c =
    let a = c.args in
    let h = some-starts a.starts.now c.if-starts-eq0.false in
    omega (arith, line-length (joined_text a.names.now a.keys.now) a.starts.now h, c.requires.1)

pub write_rest-end-requires : goal.write_rest-end-requires
write_rest-end-requires c =
    let a = c.args in
    let h = some-starts a.starts.now c.if-starts-eq0.false in
    let t = c.write_text-first.ensures in
    omega (arith, t.ends, line-length (joined_text a.names.now a.keys.now) a.starts.now h, c.requires.1)

-- the line is written
line : (c : After-write_rest-end)
    → let a = c.args in
    let r = c.write_rest-end in
    Put a.out.now 0 (texts_of a.names.now a.keys.now a.starts.now) r.new.out r.result
line c =
    let a = c.args in
    line-put (joined_text a.names.now a.keys.now) a.starts.now (some-starts a.starts.now c.if-starts-eq0.false) c.write_text-first.ensures c.write_rest-end.ensures

pub returns : goal.returns
returns c = ((line (goal.at.returns c).After-write_rest-end).stores, omega (arith, (line (goal.at.returns c).After-write_rest-end).ends), refl)

pub overflow_cast-bytes : goal.overflow_cast-bytes
overflow_cast-bytes c = omega (arith, (line (goal.at.overflow_cast-bytes c).After-write_rest-end).ends, c.requires.1)

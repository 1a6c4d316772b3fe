-- `cover_passed` meets its contract: no groups, too little room, and room for all. Assumes nothing.
use Rattle.cover.specs.CoveringLaws.{run_fits, made_none, made_short, made_all}
use Rattle.cover.proofs.covering.cover_passed.Goals as goal

pub returns-then-groups-eq0 : goal.returns-then-groups-eq0
returns-then-groups-eq0 c = let a = c.args in made_none a.edges.now a.groups a.work.now a.marks.now c.clear.new.w c.clear.ensures c.if-groups-eq0.true

pub cover_short-requires : goal.cover_short-requires
cover_short-requires c = record { run_fits = rw (c.of-all.ensures.0, c.of-all.ensures.1) (run_fits c.requires c.if-groups-eq0.false); marks_len_bound = c.if-marks-groups.true }

pub returns-then-marks-groups : goal.returns-then-marks-groups
returns-then-marks-groups c =
    let a = c.args in
    let call = c.cover_short in
    made_short a.edges.now a.groups a.work.now a.marks.now call.new.work call.new.marks c.requires.groups-max call.ensures.work_after (rw (c.of-all.ensures.0, c.of-all.ensures.1) at call.ensures.marks_after) c.if-marks-groups.true

pub cover_all-requires : goal.cover_all-requires
cover_all-requires c = record { run_fits = rw (c.of-all.ensures.0, c.of-all.ensures.1) (run_fits c.requires c.if-groups-eq0.false); groups_in_bounds = c.if-marks-groups.false }

pub returns : goal.returns
returns c =
    let a = c.args in
    let call = c.cover_all in
    made_all a.edges.now a.groups a.work.now a.marks.now call.new.work call.new.marks c.requires.groups-max call.ensures.work_after (rw (c.of-all.ensures.0, c.of-all.ensures.1) at call.ensures.marks_after) c.if-marks-groups.false

-- `spell_all` meets its contract: the first i digests stand in the tables. Assumes nothing.
use Rattle.digest_groups_words.specs.Tables.{DigestTables}
use Rattle.digest_groups_words.proofs.spelling.spell_all.Given as goal

abbrev pub invariant-loop-i : goal.invariant-loop-i
invariant-loop-i l = DigestTables l.bounds l.letters l.digests l.n l.i l.w

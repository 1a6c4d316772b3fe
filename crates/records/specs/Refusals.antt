-- Document 01, "When a call says no", and document 02 from 14 on: the number and the place of each refusal.
use Rattle.std.specs.Prelude.{ℕ}
use Rattle.records.specs.declared.refusal.Refusal.{Refusal}
use Rattle.records.specs.declared.refusal.Refusal.TheVariants.{Size, Letter, Alphabet, EmptyText, Outside, LongText, TableFull, Length, Field, Work, Room, Name, Repeat, Stray}

abbrev pub number_of : Refusal → ℕ
number_of Size = 1
number_of (Letter at) = 2
number_of Alphabet = 3
number_of EmptyText = 4
number_of (Outside at) = 5
number_of LongText = 6
number_of TableFull = 7
number_of Length = 8
number_of (Field at) = 9
number_of Work = 10
number_of Room = 11
number_of (Name at) = 12
number_of (Repeat at) = 13
number_of (Stray at) = 14

abbrev pub place_of : Refusal → ℕ
place_of Size = 0
place_of (Letter at) = at
place_of Alphabet = 0
place_of EmptyText = 0
place_of (Outside at) = at
place_of LongText = 0
place_of TableFull = 0
place_of Length = 0
place_of (Field at) = at
place_of Work = 0
place_of Room = 0
place_of (Name at) = at
place_of (Repeat at) = at
place_of (Stray at) = at

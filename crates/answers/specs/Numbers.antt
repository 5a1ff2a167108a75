-- Every refusal with its number.
use Rattle.std.specs.Prelude.{ℕ, Some, None, Option}
use Rattle.answers.specs.declared.Place.{Place}
use Rattle.answers.specs.declared.Refusal.{Refusal}
use Rattle.answers.specs.declared.Refusal.TheVariants.{Unknown, WrongKind, OutOfBounds, Unset, Unfit, Frozen, DynamicInReadOnly, NoRoom, NoRoomYet, Full, Empty, NoEdit, WrongTicket, Dirty, Short, NoForm, Foreign, TooLong}

-- The number that users know a refusal by.
abbrev pub number_of : Refusal → ℕ
number_of Unknown = 1
number_of WrongKind = 2
number_of OutOfBounds = 3
number_of Unset = 4
number_of Unfit = 5
number_of Frozen = 6
number_of DynamicInReadOnly = 7
number_of NoRoom = 8
number_of NoRoomYet = 9
number_of Full = 10
number_of Empty = 11
number_of NoEdit = 12
number_of WrongTicket = 13
number_of Dirty = 14
number_of Short = 15
number_of NoForm = 16
number_of (Foreign p) = 17
number_of TooLong = 18

-- The place of the foreign word that a refusal names.
abbrev pub place_of : Refusal → Option Place
place_of Unknown = None
place_of WrongKind = None
place_of OutOfBounds = None
place_of Unset = None
place_of Unfit = None
place_of Frozen = None
place_of DynamicInReadOnly = None
place_of NoRoom = None
place_of NoRoomYet = None
place_of Full = None
place_of Empty = None
place_of NoEdit = None
place_of WrongTicket = None
place_of Dirty = None
place_of Short = None
place_of NoForm = None
place_of (Foreign p) = Some p
place_of TooLong = None

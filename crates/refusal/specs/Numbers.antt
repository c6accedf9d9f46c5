-- The numbers of the refusals, as the paper's table gives them, and the names by which the definitions call them.
use Rattle.std.specs.Prelude.{ℕ}
use Rattle.refusal.specs.declared.Reason.{Reason}

unfoldable pub number_of : Reason → ℕ
number_of Reason.Size = 1
number_of Reason.Length = 2
number_of Reason.Starts = 3
number_of Reason.Links = 4
number_of Reason.Order = 5
number_of Reason.Room = 6
number_of Reason.Far = 7
number_of Reason.Frame = 8
number_of Reason.Row = 9
number_of Reason.Short = 10
number_of Reason.Version = 11
number_of Reason.Field = 12
number_of Reason.Long = 13
number_of Reason.Out = 14

abbrev pub SIZE : Reason
SIZE = Reason.Size

abbrev pub LENGTH : Reason
LENGTH = Reason.Length

abbrev pub STARTS : Reason
STARTS = Reason.Starts

abbrev pub LINKS : Reason
LINKS = Reason.Links

abbrev pub ORDER : Reason
ORDER = Reason.Order

abbrev pub ROOM : Reason
ROOM = Reason.Room

abbrev pub FAR : Reason
FAR = Reason.Far

abbrev pub FRAME : Reason
FRAME = Reason.Frame

abbrev pub ROW : Reason
ROW = Reason.Row

abbrev pub SHORT : Reason
SHORT = Reason.Short

abbrev pub VERSION : Reason
VERSION = Reason.Version

abbrev pub FIELD : Reason
FIELD = Reason.Field

abbrev pub LONG : Reason
LONG = Reason.Long

abbrev pub OUT : Reason
OUT = Reason.Out

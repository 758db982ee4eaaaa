-- The numbers of the causes.
use Rattle.std.specs.Prelude.{ℕ}
use Rattle.pipe_log.specs.declared.causes.Cause.{Cause}
use Rattle.pipe_log.specs.declared.causes.Cause.TheVariants.{WrongKind, TooLong, Incomplete, OutOfRange, WrongQueue, NotRewritable, BadMark, FilesGoBack, GroupAbsent, BadRange, EntryCompacted, EntryNotFound, BelowFirst, AboveLast, AppendLeft, AlreadyRewritten, KeyGoesBack, LimitPassed, ListTooShort}

abbrev pub number_of : Cause → ℕ
number_of WrongKind = 1
number_of TooLong = 2
number_of Incomplete = 3
number_of OutOfRange = 4
number_of WrongQueue = 5
number_of NotRewritable = 6
number_of BadMark = 7
number_of FilesGoBack = 8
number_of GroupAbsent = 9
number_of BadRange = 10
number_of EntryCompacted = 11
number_of EntryNotFound = 12
number_of BelowFirst = 13
number_of AboveLast = 14
number_of AppendLeft = 15
number_of AlreadyRewritten = 16
number_of KeyGoesBack = 17
number_of LimitPassed = 18
number_of ListTooShort = 19

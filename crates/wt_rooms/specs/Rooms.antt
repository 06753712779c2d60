-- What the library hands back: a status and three texts, each put into a room of the caller.
use Rattle.std.specs.Prelude.{◌≡◌, ℕ, Bool, true, false, ◌&&◌, nat_le, List, [], ◌∷◌, ◌++◌, length, drop}
use Rattle.wt_rooms.specs.declared.reply.TheConstants.{MISSING, SHORT}

pub record Told : Type 0 where
  pub status : ℕ
  pub out : List ℕ
  pub line : List ℕ
  pub missing : List ℕ

-- Of a run whose names the table has all, the caller gets how it ended; of any other, the names that the table hasn't, and
-- nothing else: its answer is that of a wiki in which these pages are absent.
abbrev pub told_by : ℕ → List ℕ → List ℕ → List ℕ → Told
told_by status out line [] = record { status = status; out = out; line = line; missing = [] }
told_by status out line (byte ∷ bytes) = record { status = MISSING; out = []; line = []; missing = byte ∷ bytes }

-- ---- rooms

-- a room of the caller before and after, and the length that is given beside it
pub record Room : Type 0 where
  pub before : List ℕ
  pub after : List ℕ
  pub needed : ℕ

abbrev pub room : List ℕ → List ℕ → ℕ → Room
room before after needed = record { before = before; after = after; needed = needed }

abbrev pub fits : List ℕ → Room → Bool
fits text r = nat_le (length text) (length r.before)

-- the text is at the front of the room, and what was after it is still there
abbrev pub IsPut : List ℕ → Room → Type 0
IsPut text r = r.after ≡ text ++ drop (length text) r.before

-- Where each text fits its room, all are put there, and the call ends so; else no room is written, and the call ends with
-- `SHORT`. The lengths that are given are those of the texts, in either case.
abbrev pub PutBy : Bool → Told → Room → Room → Room → ℕ → Type 0
PutBy true told out line missing status =
    (status ≡ told.status) × IsPut told.out out × IsPut told.line line × IsPut told.missing missing
PutBy false told out line missing status =
    (status ≡ SHORT) × (out.after ≡ out.before) × (line.after ≡ line.before) × (missing.after ≡ missing.before)

-- nothing is given of a text, and its room is as it was
abbrev pub IsLeftAlone : Room → Type 0
IsLeftAlone r = (r.needed ≡ 0) × (r.after ≡ r.before)

pub record IsHandedBack (told : Told) (out line missing : Room) (status : ℕ) : Type 0 where
  pub out_needed : out.needed ≡ length told.out
  pub line_needed : line.needed ≡ length told.line
  pub missing_needed : missing.needed ≡ length told.missing
  pub put : PutBy (fits told.out out && (fits told.line line && fits told.missing missing)) told out line missing status

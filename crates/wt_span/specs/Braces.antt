-- Braces, matched: which of them make calls and arguments, and what lies in these.
use Rattle.std.specs.Prelude.{◌≡◌, ℕ, zero, suc, ◌+◌, ◌-◌, ◌==◌, ◌&&◌, Bool, true, false, Option, Some, None, List, [], ◌∷◌, ◌++◌, take, drop, reverse, slice_get, nat_lt, nat_le, slice_range, Contains, if◌then◌else◌}
use Rattle.std.specs.List.{position_or_len, count_by}
use Rattle.wt_span.specs.declared.form.Mode.{Mode}
use Rattle.wt_span.specs.declared.form.LexKind.{LexKind}
use Rattle.wt_span.specs.declared.form.LexKind.TheVariants.{Opens, Closes, LinkOpen, LinkClose, Pipe, Equals}
use Rattle.wt_span.specs.Lexemes.{Word, words}

-- ---- the text, as its lexemes and calls

mutual
  -- a lexeme, and of a run of braces what is left of it; or a call by how many braces are at each end
  pub data Member : Type 0 where
    lexeme : Word → Member
    call : ℕ → Members → Member

  pub data Members : Type 0 where
    none : Members
    more : Member → Members → Members

abbrev pub members : List Member → Members
members [] = none
members (m ∷ ms) = more m (members ms)

abbrev pub listed : Members → List Member
listed none = []
listed (more m ms) = m ∷ listed ms

-- ---- the reduction

-- how many braces an open run has left
abbrev pub open_left : Option Member → ℕ
open_left None = 0
open_left (Some (lexeme (Opens, n))) = n
open_left (Some (lexeme (kind, n))) = 0
open_left (Some (call k ms)) = 0

abbrev pub has_two : Member → Bool
has_two m = nat_le 2 (open_left (Some m))

-- what is left of a run is in the text, where anything is left
abbrev pub left_over : LexKind → ℕ → List Member
left_over kind n = if n == 0 then [] else lexeme (kind, n) ∷ []

-- three braces where both have three left, else two
abbrev pub taken : ℕ → ℕ → ℕ
taken opening closing = if nat_le 3 opening && nat_le 3 closing then 3 else 2

-- One rewriting: a closing run, of which so many braces are left, takes from the nearest open run on its left that has
-- two left. The open run gives its last braces, the closing run its first; what lies between is the inside of a call.
-- The members on the left of the closing run are listed from the nearest on.
unfoldable pub rewritten : ℕ × List Member → ℕ × List Member
rewritten (closing, before) =
    let n = position_or_len has_two before in
    let opening = open_left (slice_get before n) in
    let k = taken opening closing in
    if nat_le 2 opening && nat_le 2 closing
    then (closing - k, call k (members (reverse (take n before))) ∷ (left_over Opens (opening - k) ++ drop (n + 1) before))
    else (closing, before)

abbrev pub again : {A : Type 0} → ℕ → (A → A) → A → A
again zero f x = x
again (suc n) f x = again n f (f x)

-- a closing run takes as often as it can: each time takes two braces or more, so as often as it has braces is enough
abbrev pub closed_by : ℕ → List Member → List Member
closed_by n before = let s = again n rewritten (n, before) in left_over Closes s.0 ++ s.1

-- one more lexeme
abbrev pub with_word : Word → List Member → List Member
with_word (Closes, n) before = closed_by n before
with_word (kind, n) before = lexeme (kind, n) ∷ before

-- the closing runs take from left to right
abbrev pub reduced_onto : List Member → List Word → List Member
reduced_onto before [] = before
reduced_onto before (w ∷ ws) = reduced_onto (with_word w before) ws

-- the text of these lexemes, with its calls
unfoldable pub reduced : List Word → List Member
reduced ws = reverse (reduced_onto [] ws)

-- ---- parts

-- how many bytes a member takes
abbrev mutual
  pub width : Member → ℕ
  width (lexeme w) = w.1
  width (call k ms) = k + width_of_all ms + k

  pub width_of_all : Members → ℕ
  width_of_all none = 0
  width_of_all (more m ms) = width m + width_of_all ms

abbrev pub is_kind_open : Member → Bool
is_kind_open (lexeme (LinkOpen, n)) = true
is_kind_open m = false

abbrev pub is_kind_close : Member → Bool
is_kind_close (lexeme (LinkClose, n)) = true
is_kind_close m = false

-- how many `[[` among the members before a place, from the nearest on, have no `]]` there
abbrev pub links_open : List Member → ℕ
links_open [] = 0
links_open (m ∷ before) = if is_kind_close m then links_open before - 1 else (if is_kind_open m then 1 + links_open before else links_open before)

-- how many `]]` among the members after a place have no `[[` there
abbrev pub links_close : List Member → ℕ
links_close [] = 0
links_close (m ∷ after) = if is_kind_open m then links_close after - 1 else (if is_kind_close m then 1 + links_close after else links_close after)

-- a place lies between a `[[` and the `]]` that pairs with it
abbrev pub in_link : List Member → List Member → Bool
in_link before after = nat_lt 0 (links_open before) && nat_lt 0 (links_close after)

-- a `|` or a `=` that counts, by its place and how many bytes it takes
pub data PartSign : Type 0 where
  pipe : ℕ → ℕ → PartSign
  equals : ℕ → ℕ → PartSign

abbrev pub sign_of : Member → ℕ → List PartSign
sign_of (lexeme (Pipe, n)) at = pipe at n ∷ []
sign_of (lexeme (Equals, n)) at = equals at n ∷ []
sign_of m at = []

-- the signs of a call's own level that lie in no link, by their places; the first member begins at `at`
abbrev pub signs : ℕ → List Member → List Member → List PartSign
signs at before [] = []
signs at before (m ∷ after) = (if in_link before after then [] else sign_of m at) ++ signs (at + width m) (m ∷ before) after

-- a part of a call, and the place of the `=` that ends its name
pub record PartAt : Type 0 where
  pub from : ℕ
  pub to : ℕ
  pub equals_at : Option ℕ

-- of a part after the first the `=`, which counts before later ones
abbrev pub with_name : Bool → ℕ → List PartAt → List PartAt
with_name later at [] = []
with_name later at (p ∷ ps) = if later then record { from = p.from; to = p.to; equals_at = Some at } ∷ ps else p ∷ ps

-- the parts between two places; the first of them is the call's target, or a later part
abbrev pub parts_between : Bool → ℕ → ℕ → List PartSign → List PartAt
parts_between later from to [] = record { from = from; to = to; equals_at = None } ∷ []
parts_between later from to (pipe at n ∷ ss) = record { from = from; to = at; equals_at = None } ∷ parts_between true (at + n) to ss
parts_between later from to (equals at n ∷ ss) = with_name later at (parts_between later from to ss)

unfoldable pub parts_of : ℕ → Members → List PartAt
parts_of from ms = parts_between false from (from + width_of_all ms) (signs from [] (listed ms))

-- ---- calls by their places

-- a call or argument, with its parts and the number of the call in which it lies, if it lies in one
pub record CallAt : Type 0 where
  pub argument : Bool
  pub from : ℕ
  pub to : ℕ
  pub parts : List PartAt
  pub parent : Option ℕ

-- how many calls and arguments a member is or holds
abbrev mutual
  pub call_count : Member → ℕ
  call_count (lexeme w) = 0
  call_count (call k ms) = 1 + call_count_of_all ms

  pub call_count_of_all : Members → ℕ
  call_count_of_all none = 0
  call_count_of_all (more m ms) = call_count m + call_count_of_all ms

-- the calls of a member that begins at `at` and lies in the call `parent`, in order of their first bytes; `n` come before
abbrev mutual
  pub calls_of : ℕ → Option ℕ → ℕ → Member → List CallAt
  calls_of at parent n (lexeme w) = []
  calls_of at parent n (call k ms) =
      record { argument = k == 3; from = at; to = at + (k + width_of_all ms + k); parts = parts_of (at + k) ms; parent = parent }
      ∷ calls_of_all (at + k) (Some n) (n + 1) ms

  pub calls_of_all : ℕ → Option ℕ → ℕ → Members → List CallAt
  calls_of_all at parent n none = []
  calls_of_all at parent n (more m ms) = calls_of at parent n m ++ calls_of_all (at + width m) parent (n + call_count m) ms

-- the calls and arguments of lexemes that follow one another, the first of which begins at `at`
unfoldable pub calls : ℕ → List Word → List CallAt
calls at ws = calls_of_all at None 0 (members (reduced ws))

-- one lies in another
abbrev pub lies_in : CallAt → CallAt → Bool
lies_in c d = nat_lt d.from c.from && nat_lt c.to d.to

-- the nesting of a call: how many calls and arguments contain it
unfoldable pub nesting : List CallAt → CallAt → ℕ
nesting cs c = count_by (lies_in c) cs

-- these bytes are a call or argument of some text that is read in this mode
abbrev pub IsCall : Mode → List ℕ → Type 0
IsCall mode bs = (text : List ℕ) × (c : CallAt) × Contains (calls 0 (words mode text)) c × (bs ≡ slice_range text c.from c.to)

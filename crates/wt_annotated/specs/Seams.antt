-- Cuts and bytes as a walk over the items finds them: a cut lies between the call of the last item before it and that of the
-- first item after it, and nothing else of the page is asked for.
use Rattle.std.specs.Prelude.{ℕ, Bool, not, Option, Some, None, List, [], ◌∷◌, ◌++◌, if◌then◌else◌}
use Rattle.wt_span.specs.Items.{Item, source, call_of}
use Rattle.wt_span.specs.Origins.{OuterCall, same_call}
use Rattle.wt_span.specs.Cuts.{text_by}

-- the call of the last item, after one of this call
abbrev pub last_of : Option ℕ → List Item → Option ℕ
last_of o [] = o
last_of o (x ∷ xs) = last_of (call_of x) xs

-- the call of the first item, before one of this call
abbrev pub first_of : List Item → Option ℕ → Option ℕ
first_of [] o = o
first_of (x ∷ xs) o = call_of x

-- the call of the first item, if there is an item
abbrev pub first_found : List Item → Option (Option ℕ)
first_found [] = None
first_found (x ∷ xs) = Some (call_of x)

-- a cut between items of these calls is free
abbrev pub parted : Option ℕ → Option ℕ → Bool
parted o p = not (same_call o p)

-- what is on the page for an item after one of this call
abbrev pub text_step : List OuterCall → Option ℕ → Item → List ℕ
text_step calls o x = if parted o (call_of x) then text_by calls (call_of x) (source x) else []

-- what is on the page for items after one of this call
abbrev pub text_from : List OuterCall → Option ℕ → List Item → List ℕ
text_from calls o [] = []
text_from calls o (x ∷ xs) = text_step calls o x ++ text_from calls (call_of x) xs

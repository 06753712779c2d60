-- Free cuts: where items may be parted so that the page can be cut there, and the byte of the page at each.
use Rattle.std.specs.Prelude.{ℕ, zero, suc, ◌+◌, Bool, true, not, List, [], ◌++◌, length, slice_get, Option, Some, None, if◌then◌else◌}
use Rattle.wt_span.specs.Items.{Item, source, call_of}
use Rattle.wt_span.specs.Origins.{OuterCall, same_call}

abbrev pub call_of_item : Option Item → Option ℕ
call_of_item None = None
call_of_item (Some x) = call_of x

-- a cut is free unless both items beside it come from the same call; `n` items come before it
abbrev pub is_free : List Item → ℕ → Bool
is_free all zero = true
is_free all (suc n) = not (same_call (call_of_item (slice_get all n)) (call_of_item (slice_get all (suc n))))

abbrev pub source_of_call : Option OuterCall → List ℕ
source_of_call None = []
source_of_call (Some c) = c.source

-- what is on the page for an item's origin
abbrev pub text_by : List OuterCall → Option ℕ → List ℕ → List ℕ
text_by calls None bs = bs
text_by calls (Some k) bs = source_of_call (slice_get calls k)

abbrev pub origin_text : List OuterCall → Option Item → List ℕ
origin_text calls None = []
origin_text calls (Some x) = text_by calls (call_of x) (source x)

-- what is on the page for the item after a cut: an origin counts once, where its first item is
abbrev pub text_at : List OuterCall → List Item → ℕ → List ℕ
text_at calls all n = if is_free all n then origin_text calls (slice_get all n) else []

-- the byte of a cut: of a free cut its byte of the page
abbrev pub place : List OuterCall → List Item → ℕ → ℕ
place calls all zero = 0
place calls all (suc n) = place calls all n + length (text_at calls all n)

-- what is on the page between two cuts, k items apart
abbrev pub text_between : List OuterCall → List Item → ℕ → ℕ → List ℕ
text_between calls all n zero = []
text_between calls all n (suc k) = text_at calls all n ++ text_between calls all (suc n) k

-- the page: the origins, each once, joined
abbrev pub page_of : List OuterCall → List Item → List ℕ
page_of calls all = text_between calls all 0 (length all)

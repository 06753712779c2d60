-- The items of an expanded page with where they come from, its outermost calls and arguments, and its text calls.
use Rattle.std.specs.Prelude.{ℕ, suc, ◌+◌, ◌-◌, ◌==◌, Bool, true, false, Option, Some, None, List, [], ◌∷◌, ◌++◌, map, take, drop, slice_index}
use Rattle.wt_span.specs.declared.form.ItemForm.TheVariants as form
use Rattle.wt_span.specs.Bytes.{is_break}
use Rattle.wt_span.specs.Items.{Item, char, whole}
use Rattle.wt_span.specs.Origins.{OuterCall, Span, Expanded}
use Rattle.wt_span.specs.Braces.{Member, Members, lexeme, call, none, more, width, width_of_all, parts_of}
use Rattle.wt_names.specs.Written.{link_to}
use Rattle.wt_braces.specs.PartMembers.{part_members}
use Rattle.wt_expand.specs.Targets.{Called, argument, choice, function, page, text, called}
use Rattle.wt_expand.specs.Work.{Pages}
use Rattle.wt_expand.specs.Expansion.{chars, front_braces, back_braces, target_part, part_outputs, Reading, output_of, outputs_of, text_members, page_reading}

-- what a stretch of the page gives: items of the page itself, or an outermost call with what it gives; and where a text call is
pub data Stretch : Type 0 where
  own : List Item → Stretch
  outer : OuterCall → List Item → Stretch
  text_call : Span → Stretch

-- the link that an outermost call has; an argument and a function have none
abbrev pub link_of : Called → Option (List ℕ)
link_of argument = None
link_of (choice f n) = None
link_of function = None
link_of (page t) = Some (link_to t)
link_of text = None

-- a call that begins at `at` and has so many braces at each end
abbrev pub outer_at : ℕ → ℕ → List ℕ → Members → Called → OuterCall
outer_at at k source ms c = record {
  start = at;
  source = source;
  argument = k == 3;
  parts = map (λ p. (p.from, p.to)) (parts_of (at + k) ms);
  equals = map (λ p. p.equals_at) (parts_of (at + k) ms);
  href = link_of c;
}

-- The stretches of a call that begins at `at`. A function of the page that is kept is an item of its own, and of a text call the braces are
-- characters and the calls in it are outermost ones.
abbrev pub call_stretches : Called → ℕ → ℕ → List ℕ → Members → List Item → List Stretch → List Stretch
call_stretches argument at k source ms given inside = outer (outer_at at k source ms argument) given ∷ []
call_stretches (choice f n) at k source ms given inside = outer (outer_at at k source ms (choice f n)) given ∷ []
call_stretches function at k source ms given inside = own given ∷ []
call_stretches (page t) at k source ms given inside = outer (outer_at at k source ms (page t)) given ∷ []
call_stretches text at k source ms given inside =
    text_call (at, at + (k + width_of_all ms + k))
    ∷ (own (chars (front_braces k source)) ∷ (inside ++ own (chars (back_braces k source)) ∷ []))

-- the stretches of the page's members, the first of which begins at `at` with these bytes
abbrev mutual
  pub stretches_of : Reading → ℕ → Bool → List ℕ → Member → List Stretch
  stretches_of r at at_start bs (lexeme w) = own (output_of r at_start bs (lexeme w)).items ∷ []
  stretches_of r at at_start bs (call k ms) =
      let source = take (k + width_of_all ms + k) bs in
      let target = target_part (part_outputs (part_members 0 ms) (outputs_of r false (drop k bs) ms)) in
      call_stretches (called k source target.items) at k source ms (output_of r at_start bs (call k ms)).items (all_stretches r (at + k) false (drop k bs) ms)

  pub all_stretches : Reading → ℕ → Bool → List ℕ → Members → List Stretch
  all_stretches r at at_start bs none = []
  all_stretches r at at_start bs (more m ms) =
      stretches_of r at at_start bs m
      ++ all_stretches r (at + width m) (is_break (slice_index bs (width m - 1))) (drop (width m) bs) ms

-- ---- items by their calls

abbrev pub from_call : ℕ → Item → Item
from_call k (char o b) = char (Some k) b
from_call k (whole f o bs) = whole f (Some k) bs

-- what the k-th outermost call gives; one that gives nothing is a mark
abbrev pub outer_items : ℕ → OuterCall → List Item → List Item
outer_items k c [] = whole form.EmptyCall (Some k) c.source ∷ []
outer_items k c (x ∷ xs) = map (from_call k) (x ∷ xs)

-- the items, where `k` outermost calls come before
abbrev pub numbered : ℕ → List Stretch → List Item
numbered k [] = []
numbered k (own xs ∷ ss) = xs ++ numbered k ss
numbered k (outer c xs ∷ ss) = outer_items k c xs ++ numbered (suc k) ss
numbered k (text_call s ∷ ss) = numbered k ss

abbrev pub outer_calls : List Stretch → List OuterCall
outer_calls [] = []
outer_calls (own xs ∷ ss) = outer_calls ss
outer_calls (outer c xs ∷ ss) = c ∷ outer_calls ss
outer_calls (text_call s ∷ ss) = outer_calls ss

abbrev pub text_spans : List Stretch → List Span
text_spans [] = []
text_spans (own xs ∷ ss) = text_spans ss
text_spans (outer c xs ∷ ss) = text_spans ss
text_spans (text_call s ∷ ss) = s ∷ text_spans ss

unfoldable pub page_stretches : Pages → List ℕ → List Stretch
page_stretches pages bs = all_stretches (page_reading pages) 0 true bs (text_members (page_reading pages).mode bs)

-- the expanded page
unfoldable pub expanded_page : Pages → List ℕ → Expanded
expanded_page pages bs = let ss = page_stretches pages bs in record { items = numbered 0 ss; outer = outer_calls ss; text_calls = text_spans ss }

-- What a call gives from the point on up to which it is read, with the work that is left. `o` is always what gives the name, the
-- value or the target that is being read, in all.
use Rattle.std.specs.Prelude.{ℕ, ◌+◌, Option, Some, None, List, [], ◌∷◌, ◌++◌, length, map, drop, Bool}
use Rattle.wt_span.specs.declared.function.Function.{Function}
use Rattle.wt_span.specs.Items.{sources}
use Rattle.wt_names.specs.declared.title.Title.{Title}
use Rattle.wt_functions.specs.Choice.{Telling}
use Rattle.wt_expand.specs.Texts.{name_text, trimmed_items}
use Rattle.wt_expand.specs.Targets.{title_of_target}
use Rattle.wt_expand.specs.Work.{Entry, begun, ended}
use Rattle.wt_expand.specs.Asking.{asking}
use Rattle.wt_expand.specs.Expansion.{Output, Reading, PartOutput, Frame, just, then_output, chars, value_of, values_from, parts_work, default_output, if_value, with_break, later_parts, told_by, front_braces, back_braces}

-- so much work comes before
abbrev pub with_work : List Entry → Output → Output
with_work es o = record { items = o.items; work = es ++ o.work }

-- a call or argument that gives this ends
abbrev pub ended_with : Output → Output
ended_with o = record { items = o.items; work = o.work ++ ended (length (sources o.items)) ∷ [] }

-- the name of an argument; its beginning is done already
abbrev pub after_argument : Frame → List PartOutput → Output → Output
after_argument frame later o =
    let x = if_value (value_of (name_text o.items) frame) (default_output o later) in ended_with (record { items = x.items; work = o.work ++ x.work })

-- what a page gives to its call
abbrev pub after_page : Bool → Output → Output
after_page at_start o = ended_with (record { items = with_break at_start o.items; work = o.work })

-- parts whose values are read, where those before have these values
abbrev pub after_values : Reading → Bool → Title → Frame → ℕ → List PartOutput → Output
after_values r at_start t frame n later = with_work (parts_work later) (after_page at_start (r.template t (frame ++ values_from n later)))

-- the number of the next value without a name
abbrev pub next_number : ℕ → Option Output → ℕ
next_number n None = n + 1
next_number n (Some name) = n

-- a value, with its name where it has one
abbrev pub after_value : Reading → Bool → Title → Frame → ℕ → Option Output → List PartOutput → Output → Output
after_value r at_start t frame n name later o =
    with_work o.work (after_values r at_start t (frame ++ values_from n (record { name = name; value = o; all = o } ∷ [])) (next_number n name) later)

-- the name of a value
abbrev pub after_name : Reading → Bool → Title → Frame → ℕ → Output → List PartOutput → Output → Output
after_name r at_start t frame n value later o = with_work o.work (after_value r at_start t frame n (Some o) later value)

-- what is between the braces of a call that is text
abbrev pub after_text : ℕ → List ℕ → Output → Output
after_text k source o = then_output o (just (chars (back_braces k source)))

-- the target of a call of two braces, by the title that it names
abbrev pub after_target_by : Option Title → Reading → Bool → ℕ → List ℕ → List PartOutput → Output → Output → Output
after_target_by None r at_start k source later behind o = then_output (just (chars (front_braces k source)))
    (then_output o (then_output behind (just (chars (back_braces k source)))))
after_target_by (Some t) r at_start k source later behind o = with_work (o.work ++ begun ∷ []) (after_values r at_start t [] 1 later)

abbrev pub after_target : Reading → Bool → ℕ → List ℕ → List PartOutput → Output → Output → Output
after_target r at_start k source later behind o = after_target_by (title_of_target o.items) r at_start k source later behind o

-- ---- functions by text

-- the part that a function gives
abbrev pub after_given : Bool → Output → Output
after_given at_start o = ended_with (record { items = with_break at_start (trimmed_items o.items); work = o.work })

-- a target from its part 0 on, which comes after so many bytes
abbrev pub behind_word : ℕ → Output → Output
behind_word n o = record { items = drop n o.items; work = o.work }

-- what may be told of the parts after the target
abbrev pub later_told : Function → List PartOutput → List Output
later_told f ps = map (λ p. told_by f p.name p.all) (later_parts ps)

-- a part that is told to a function that was told the parts before it; its beginning is done already
abbrev pub after_told : Bool → Telling → List PartOutput → Output → Output
after_told at_start told ps o =
    let more = asking told.function told.equals ps (told.texts ++ name_text o.items ∷ []) (drop (length told.texts) (later_told told.function ps)) in
    with_work o.work (after_given at_start more)

-- What a call calls, by its target.
use Rattle.std.specs.Prelude.{ℕ, ◌==◌, Bool, true, false, Option, Some, None, List, drop, slice_index, if◌then◌else◌}
use Rattle.std.specs.Option.{option_and_then}
use Rattle.wt_span.specs.Items.{Item}
use Rattle.wt_names.specs.declared.namespace.Ns.{Ns}
use Rattle.wt_names.specs.declared.namespace.Ns.TheVariants as ns
use Rattle.wt_names.specs.declared.title.Title.{Title}
use Rattle.wt_names.specs.Good.{is_good, read_text}
use Rattle.wt_span.specs.declared.function.Function.{Function}
use Rattle.wt_span.specs.Functions.{function_of}
use Rattle.wt_span.specs.Characters as byte
use Rattle.wt_expand.specs.Texts.{is_space, without_front, trimmed, target_text}

abbrev pub is_main : Ns → Bool
is_main ns.Main = true
is_main n = false

abbrev pub is_template : Ns → Bool
is_template ns.Template = true
is_template n = false

-- the title in the namespace of templates
abbrev pub as_template : Title → Title
as_template t = record { ns = ns.Template; name = t.name; fragment = t.fragment }

abbrev pub if_good : Title → Option Title
if_good t = if is_good t then Some t else None

-- a title without a namespace is a template's, unless a colon came before it
abbrev pub placed_title : Bool → Title → Option Title
placed_title true t = Some t
placed_title false t = if is_main t.ns then if_good (as_template t) else Some t

abbrev pub if_whole : Option (List ℕ) → Title → Option Title
if_whole None t = Some t
if_whole (Some fragment) t = None

-- a title with a fragment is none that can be called
abbrev pub without_fragment : Title → Option Title
without_fragment t = if_whole t.fragment t

abbrev pub title_behind : Bool → List ℕ → Option Title
title_behind colon text = option_and_then (placed_title colon) (option_and_then without_fragment (read_text (if colon then drop 1 text else text)))

-- the title that a target's text names: a leading colon names the page as it is
unfoldable pub title_in_target : List ℕ → Option Title
title_in_target text = let bs = trimmed text in title_behind (slice_index bs 0 == byte.colon) bs

-- the title of a target that was expanded
unfoldable pub title_of_target : List Item → Option Title
title_of_target items = option_and_then title_in_target (target_text items)

-- The first character of a call's target past blanks and line breaks is `#`. The target ends with the call or with a `|`,
-- so this is the first such character after the two braces.
unfoldable pub is_function : List ℕ → Bool
is_function source = slice_index (without_front is_space (drop 2 source)) 0 == byte.hash

-- What a call is: an argument; a function by text, with how many bytes of its target come before its part 0; another function,
-- which is kept as it is; the call of a page; or text.
pub data Called : Type 0 where
  argument : Called
  choice : Function → ℕ → Called
  function : Called
  page : Title → Called
  text : Called

abbrev pub called_by : Option Title → Called
called_by None = text
called_by (Some t) = page t

-- a function by its word
abbrev pub called_function : Option (Function × ℕ) → Called
called_function None = function
called_function (Some (f, n)) = choice f n

-- By its braces, its source, and its target as it was expanded. The word of a function by text holds no sign of a call, so it
-- is in the target if it comes after the two braces.
unfoldable pub called : ℕ → List ℕ → List Item → Called
called k source target =
    if k == 3 then argument
    else (if is_function source then called_function (function_of (drop 2 source)) else called_by (title_of_target target))

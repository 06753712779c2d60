-- The frame of a document, as it is found.
use Rattle.std.specs.Prelude.{◌≡◌, ℕ, ◌+◌, ◌&&◌, Bool, true, false, not, Option, Some, None, Result, Ok, Err, List, codes, if◌then◌else◌}
use Rattle.std.specs.Str.{bytes_eq}
use Rattle.wt_html_grammar.specs.Markup.{Pair, Markup, Markups, text, node, empty, more}
use Rattle.wt_html_elements.specs.Built.{pairs, views}
use Rattle.wt_schema.specs.Fit.{elements_of_all, is_marked_root, fit_body, BodyElement as FoundBody}
use Rattle.wt_schema.specs.Sections.{all_bared}
use Rattle.wt_schema.specs.Unsourced.{is_marked, unsourced_body}
use Rattle.wt_html_in.specs.declared.frame.BodyElement.{BodyElement}
use Rattle.wt_html_in.specs.declared.edited.Edited.{Edited}
use Rattle.wt_html_nodes.specs.declared.fault.FitFault.{FitFault}
use Rattle.wt_html_nodes.specs.declared.fault.FitFault.TheVariants as faults
use Rattle.wt_html_in.specs.Answers.{body_of, unsourced_of}

abbrev pub found_of : ℕ → List Pair → Markups → FoundBody
found_of n ps c = record { number = n; attributes = ps; contents = c }

abbrev pub found_if_any : Option BodyElement → Option FoundBody
found_if_any None = None
found_if_any (Some f) = Some (found_of f.number (pairs f.attributes.items) (views f.contents.items))

-- an element that may be the root
abbrev pub is_root : List ℕ → List Pair → Bool
is_root name ps = bytes_eq name (codes "html") && not (is_marked_root ps)

abbrev pub is_element : Markup → Bool
is_element (text bs) = false
is_element (node name ps c) = true

abbrev pub marked_here : ℕ → List Pair → Option ℕ
marked_here n ps = if is_marked ps then Some n else None

-- a head by itself, and how many elements are in it
abbrev pub number_behind_one : Markup → Option ℕ
number_behind_one (text bs) = None
number_behind_one (node head hs hc) = if bytes_eq head (codes "head") then Some (3 + elements_of_all hc) else None

-- the number of the element after these: nothing, or a head
abbrev pub number_behind : Markups → Option ℕ
number_behind empty = Some 2
number_behind (more m empty) = number_behind_one m
number_behind ms = None

-- the element of this number, where it is a body
abbrev pub body_as : Markup → Option ℕ → Option FoundBody
body_as m None = None
body_as (text bs) (Some n) = None
body_as (node name ps c) (Some n) = if bytes_eq name (codes "body") then Some (found_of n ps (all_bared c)) else None

-- what is reported of the page that a body is
abbrev pub FitsBody : Option FoundBody → Result Edited FitFault → Type 0
FitsBody f (Ok e) = (fit_body f ≡ Ok (body_of e)) × (unsourced_body f ≡ unsourced_of e)
FitsBody f (Err (faults.Unfit n w)) = fit_body f ≡ Err (n, w)
FitsBody f (Err faults.NoMemory) = Unit {0}

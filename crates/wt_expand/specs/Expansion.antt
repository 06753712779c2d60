-- What texts, calls and arguments give, and the work of it. A call is substituted in the text in which it is; what it calls is
-- read with the values that it hands over.
use Rattle.std.specs.Prelude.{ℕ, zero, suc, ◌+◌, ◌-◌, ◌==◌, ◌||◌, ◌&&◌, not, Bool, true, false, Option, Some, None, List, [], ◌∷◌, ◌++◌, length, map, take, drop, slice_index, codes, decimal, is_some, if◌then◌else◌}
use Rattle.std.specs.Option.{option_or}
use Rattle.std.specs.Str.{bytes_eq}
use Rattle.wt_span.specs.declared.form.Mode.{Mode}
use Rattle.wt_span.specs.declared.form.Mode.TheVariants as mode
use Rattle.wt_span.specs.declared.form.ItemForm.TheVariants as form
use Rattle.wt_span.specs.declared.form.LexKind.{LexKind}
use Rattle.wt_span.specs.declared.form.LexKind.TheVariants as lex
use Rattle.wt_span.specs.Bytes.{is_break}
use Rattle.wt_span.specs.Lexemes.{words}
use Rattle.wt_span.specs.Items.{Item, char, whole, sources, is_char_in, items_by}
use Rattle.wt_span.specs.Braces.{Member, Members, lexeme, call, none, more, members, width, width_of_all, reduced}
use Rattle.wt_names.specs.declared.title.Title.{Title}
use Rattle.wt_names.specs.Namespace.{full_name_of}
use Rattle.wt_braces.specs.PartMembers.{PartMembers, part_members}
use Rattle.wt_span.specs.declared.function.Function.{Function}
use Rattle.wt_span.specs.declared.function.Function.TheVariants.{If, IfEq, Switch}
use Rattle.wt_span.specs.Characters as byte
use Rattle.wt_functions.specs.Choice.{chosen, told_count}
use Rattle.wt_expand.specs.PageItems.{form_of}
use Rattle.wt_expand.specs.Texts.{trimmed_items, name_text}
use Rattle.wt_expand.specs.Targets.{is_template, Called, argument, choice, function, page, text, called}
use Rattle.wt_expand.specs.Templates.{template_text}
use Rattle.wt_expand.specs.Work.{Pages, Entry, entered, begun, fetched, ended, is_among}
use Rattle.wt_expand.specs.declared.limits.TheConstants.{MOST_TEMPLATES}

-- ---- what is given

-- items, and the work by which they came
pub record Output : Type 0 where
  pub items : List Item
  pub work : List Entry

abbrev pub just : List Item → Output
just xs = record { items = xs; work = [] }

abbrev pub then_output : Output → Output → Output
then_output a b = record { items = a.items ++ b.items; work = a.work ++ b.work }

-- one after another
abbrev pub joined : List Output → Output
joined [] = just []
joined (o ∷ os) = then_output o (joined os)

abbrev pub chars : List ℕ → List Item
chars bs = map (char None) bs

-- ---- lexemes

-- a template's include tags and hidden parts are removed; the page's are marks
abbrev pub is_removed : Mode → LexKind → Bool
is_removed mode.Page kind = false
is_removed mode.Template lex.Chars = false
is_removed mode.Template lex.CommentLine = false
is_removed mode.Template lex.Comment = false
is_removed mode.Template lex.Raw = false
is_removed mode.Template lex.Include = true
is_removed mode.Template lex.Hidden = true
is_removed mode.Template (lex.Entity c) = false
is_removed mode.Template lex.Opens = false
is_removed mode.Template lex.Closes = false
is_removed mode.Template lex.LinkOpen = false
is_removed mode.Template lex.LinkClose = false
is_removed mode.Template lex.Pipe = false
is_removed mode.Template lex.Equals = false

-- a lexeme stands for itself
abbrev pub lexeme_items : Mode → LexKind → List ℕ → List Item
lexeme_items m kind bs = if is_removed m kind then [] else items_by (form_of kind bs) None bs

-- ---- parts

-- what a part's name, its value and all of it give
pub record PartOutput : Type 0 where
  pub name : Option Output
  pub value : Output
  pub all : Output

-- how many members a part has, with the `=` that ends its name
abbrev pub member_count : PartMembers → ℕ
member_count p = count_by_name p.name (length p.value)
  where
    count_by_name : Option (List Member × ℕ) → ℕ → ℕ
    count_by_name None n = n
    count_by_name (Some (xs, w)) n = length xs + 1 + n

-- the outputs of a part's members, in its name and its value
abbrev pub part_by : Option (List Member × ℕ) → List Output → PartOutput
part_by None os = record { name = None; value = joined os; all = joined os }
part_by (Some (xs, w)) os = record { name = Some (joined (take (length xs) os)); value = joined (drop (length xs + 1) os); all = joined os }

-- the outputs of a call's members, part by part; a `|` is between two parts
abbrev pub part_outputs : List PartMembers → List Output → List PartOutput
part_outputs [] os = []
part_outputs (p ∷ ps) os = part_by p.name (take (member_count p) os) ∷ part_outputs ps (drop (member_count p + 1) os)

-- the first part is the target
abbrev pub target_part : List PartOutput → Output
target_part [] = just []
target_part (p ∷ ps) = p.all

abbrev pub later_parts : List PartOutput → List PartOutput
later_parts [] = []
later_parts (p ∷ ps) = ps

-- ---- values

-- a finite map from names to values, in the order in which they were given
abbrev pub Frame : Type 0
Frame = List (List ℕ × List Item)

-- of several values of one name the last
abbrev pub value_of : List ℕ → Frame → Option (List Item)
value_of name [] = None
value_of name ((n, v) ∷ vs) = option_or (value_of name vs) (if bytes_eq n name then Some v else None)

-- a value that has a name is trimmed; the others are numbered, from `n` on, and stay as they are
abbrev pub values_from : ℕ → List PartOutput → Frame
values_from n [] = []
values_from n (p ∷ ps) = value_by n p.name p.value ++ values_from (next_by n p.name) ps
  where
    value_by : ℕ → Option Output → Output → Frame
    value_by n None v = (decimal n, v.items) ∷ []
    value_by n (Some name) v = (name_text name.items, trimmed_items v.items) ∷ []

    next_by : ℕ → Option Output → ℕ
    next_by n None = n + 1
    next_by n (Some name) = n

-- the work of parts, from left to right, each name before its value
abbrev pub parts_work : List PartOutput → List Entry
parts_work [] = []
parts_work (p ∷ ps) = p.all.work ++ parts_work ps

-- ---- what a call gives

-- how a text is read: as the page or as a template's, with which values, and what a title gives under values
pub record Reading : Type 0 where
  pub mode : Mode
  pub frame : Frame
  pub template : Title → Frame → Output

-- what is given by a call or argument that begins after `before`
abbrev pub given : List Entry → List Entry → List Item → Output
given before inside xs = record { items = xs; work = before ++ (begun ∷ (inside ++ ended (length (sources xs)) ∷ [])) }

-- an argument without a value gives its default, and without one its own spelling
abbrev pub default_output : Output → List PartOutput → Output
default_output name [] = record { items = chars (codes "{{{") ++ (name.items ++ chars (codes "}}}")); work = [] }
default_output name (p ∷ ps) = p.all

abbrev pub if_value : Option (List Item) → Output → Output
if_value None default = default
if_value (Some v) default = just v

abbrev pub argument_output : Frame → List PartOutput → Output
argument_output frame ps =
    let name = target_part ps in
    let o = if_value (value_of (name_text name.items) frame) (default_output name (later_parts ps)) in
    given [] (name.work ++ o.work) o.items

-- the characters `*`, `#`, `:` and `;`, and `{` with `|` after it
abbrev pub is_block_sign : ℕ → Bool
is_block_sign b = b == byte.asterisk || (b == byte.hash || (b == byte.colon || b == byte.semicolon))

abbrev pub begins_with_bar : List Item → Bool
begins_with_bar [] = false
begins_with_bar (x ∷ xs) = is_char_in (λ b. b == byte.vertical_bar) x

abbrev pub opens_block : List Item → Bool
opens_block [] = false
opens_block (x ∷ xs) = is_char_in is_block_sign x || (is_char_in (λ b. b == byte.opening_brace) x && begins_with_bar xs)

-- a line break before what only counts at the start of a line, unless the call is there; the texts that stand for a page
-- that isn't taken begin with other characters
abbrev pub with_break : Bool → List Item → List Item
with_break at_start xs = if opens_block xs && not at_start then char None byte.line_break ∷ xs else xs

abbrev pub page_output : Reading → Bool → Title → List PartOutput → Output
page_output r at_start t ps =
    let o = r.template t (values_from 1 (later_parts ps)) in
    given (target_part ps).work (parts_work (later_parts ps) ++ o.work) (with_break at_start o.items)

-- of `#switch` a part with a name is told by this, and gives its value; every other part is told and given whole
abbrev pub told_by : Function → Option Output → Output → Output
told_by If name all = all
told_by IfEq name all = all
told_by Switch None all = all
told_by Switch (Some name) all = name

abbrev pub given_by : Function → PartOutput → Output
given_by If p = p.all
given_by IfEq p = p.all
given_by Switch p = p.value

-- what may be told of the parts, from part 0 on, which is the target without its first bytes
abbrev pub told_outputs : Function → ℕ → List PartOutput → List Output
told_outputs f n ps =
    record { items = drop n (target_part ps).items; work = (target_part ps).work }
    ∷ map (λ p. told_by f p.name p.all) (later_parts ps)

abbrev pub first_given : Function → List PartOutput → Output
first_given f [] = just []
first_given f (p ∷ ps) = given_by f p

-- what the part of a number gives, where one is chosen
abbrev pub chosen_output : Function → Option ℕ → List PartOutput → Output
chosen_output f None ps = just []
chosen_output f (Some part) ps = first_given f (drop part ps)

-- A function tells parts and gives one, trimmed. What is told is expanded, and what is given is expanded then, also where it was
-- told before; no other part is.
abbrev pub function_output : Function → ℕ → Bool → List PartOutput → Output
function_output f n at_start ps =
    let told = told_outputs f n ps in
    let equals = map (λ p. is_some p.name) (later_parts ps) in
    let texts = map (λ o. name_text o.items) told in
    let o = chosen_output f (chosen f equals texts) ps in
    given [] ((joined (take (told_count f equals texts) told)).work ++ o.work) (with_break at_start (trimmed_items o.items))

-- the braces at the two ends of a call's source
abbrev pub front_braces : ℕ → List ℕ → List ℕ
front_braces k source = take k source

abbrev pub back_braces : ℕ → List ℕ → List ℕ
back_braces k source = drop (length source - k) source

-- a call that is text: its braces, bars and `=` are characters, and what is between them is as it was expanded
abbrev pub text_output : ℕ → List ℕ → List Output → Output
text_output k source os = then_output (just (chars (front_braces k source))) (then_output (joined os) (just (chars (back_braces k source))))

abbrev pub called_output : Called → Reading → Bool → ℕ → List ℕ → List PartOutput → List Output → Output
called_output argument r at_start k source ps os = argument_output r.frame ps
called_output (choice f n) r at_start k source ps os = function_output f n at_start ps
called_output function r at_start k source ps os = just (whole form.Function None source ∷ [])
called_output (page t) r at_start k source ps os = page_output r at_start t ps
called_output text r at_start k source ps os = text_output k source os

abbrev pub call_output : Reading → Bool → ℕ → List ℕ → List PartMembers → List Output → Output
call_output r at_start k source parts os =
    let ps = part_outputs parts os in
    called_output (called k source (target_part ps).items) r at_start k source ps os

-- The members of a text, which begin with these bytes. `at_start`: they begin the text or come after a line break.
abbrev mutual
  pub output_of : Reading → Bool → List ℕ → Member → Output
  output_of r at_start bs (lexeme (kind, n)) = just (lexeme_items r.mode kind (take n bs))
  output_of r at_start bs (call k ms) = call_output r at_start k (take (k + width_of_all ms + k) bs) (part_members 0 ms) (outputs_of r false (drop k bs) ms)

  pub outputs_of : Reading → Bool → List ℕ → Members → List Output
  outputs_of r at_start bs none = []
  outputs_of r at_start bs (more m ms) = output_of r at_start bs m ∷ outputs_of r (is_break (slice_index bs (width m - 1))) (drop (width m) bs) ms

-- the members of a text, read in this mode
unfoldable pub text_members : Mode → List ℕ → Members
text_members m bs = members (reduced (words m bs))

-- all of a text
abbrev pub text_given : Reading → List ℕ → Output
text_given r bs = joined (outputs_of r true bs (text_members r.mode bs))

-- ---- templates

-- the name of a title in messages: without the namespace of templates
abbrev pub short_name : Title → List ℕ
short_name t = if is_template t.ns then t.name else full_name_of t

unfoldable pub loop_text : Title → List ℕ
loop_text t = codes "Template loop: " ++ short_name t

unfoldable pub depth_text : Title → List ℕ
depth_text t = codes "Template depth: " ++ short_name t

-- the link to a page that is absent
unfoldable pub absent_text : List ℕ → List ℕ
absent_text full = codes "[[:" ++ (full ++ codes "]]")

-- a page that was fetched, by what it gives where it was found
abbrev pub fetched_output : List ℕ → (List ℕ → Output) → Option (List ℕ) → Output
fetched_output full read None = record { items = chars (absent_text full); work = fetched full ∷ [] }
fetched_output full read (Some bytes) = let o = read (template_text bytes) in record { items = o.items; work = fetched full ∷ (entered (Some full) ∷ o.work) }

-- What a title gives under values, where so many more templates may be entered and these are being expanded: a message where it
-- is one of these or no more may be entered, else its page.
abbrev pub template_output : Pages → ℕ → List (List ℕ) → Title → Frame → Output
template_output pages zero open_titles t frame = just (chars (if is_among (full_name_of t) open_titles then loop_text t else depth_text t))
template_output pages (suc n) open_titles t frame =
    let full = full_name_of t in
    if is_among full open_titles then just (chars (loop_text t))
    else
    fetched_output full
    (λ bs. text_given (record { mode = mode.Template; frame = frame; template = template_output pages n (full ∷ open_titles) }) bs)
    (pages full)

-- how many templates may be expanded one inside another
unfoldable pub most_templates : ℕ
most_templates = MOST_TEMPLATES

-- the page is read with no values, and isn't counted among the templates
abbrev pub page_reading : Pages → Reading
page_reading pages = record { mode = mode.Page; frame = []; template = template_output pages most_templates [] }

-- the page's work
unfoldable pub page_work : Pages → List ℕ → List Entry
page_work pages bs = entered None ∷ (text_given (page_reading pages) bs).work

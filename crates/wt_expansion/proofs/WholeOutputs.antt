-- The items that texts, calls and arguments give have whole bytes, whatever the folder has.
use Rattle.std.proofs.Common.{◌≡◌, ℕ, zero, suc, ◌+◌, ◌-◌, ◌⊎◌, inl, inr, Bool, true, false, Option, Some, None, List, [], ◌∷◌, ◌++◌, length, map, take, drop, refl, sym, ap, ◌∙◌, subst, codes, ⊎_elim}
use Rattle.std.specs.Prelude.{reverse, slice_index, is_some, if◌then◌else◌, ◌&&◌, not}
use Rattle.std.specs.Option.{option_or}
use Rattle.std.specs.Str.{bytes_eq}
use Rattle.std.proofs.lemmas.List.{reverse-append}
use Rattle.wt_span.specs.declared.form.Mode.{Mode}
use Rattle.wt_span.specs.declared.form.Mode.TheVariants as mode
use Rattle.wt_span.specs.declared.form.ItemForm.{ItemForm}
use Rattle.wt_span.specs.declared.form.ItemForm.TheVariants as form
use Rattle.wt_span.specs.declared.form.LexKind.{LexKind}
use Rattle.wt_span.specs.declared.form.LexKind.TheVariants as lex
use Rattle.wt_span.specs.Bytes.{is_break}
use Rattle.wt_span.specs.Tags.{Tag, opening_tag, is_nowiki, is_extension, raw_by, with_inside}
use Rattle.wt_span.specs.Whole.{IsWhole, IsRawTag}
use Rattle.wt_span.specs.Items.{Item, char, whole, is_char_in, items_by}
use Rattle.wt_span.specs.Braces.{Member, Members, lexeme, call, none, more, width, width_of_all}
use Rattle.wt_span.specs.declared.function.Function.{Function}
use Rattle.wt_span.specs.declared.function.Function.TheVariants.{If, IfEq, Switch}
use Rattle.wt_names.specs.declared.title.Title.{Title}
use Rattle.wt_names.specs.Namespace.{full_name_of}
use Rattle.wt_braces.specs.PartMembers.{PartMembers, part_members}
use Rattle.wt_functions.specs.Choice.{chosen}
use Rattle.wt_expand.specs.PageItems.{raw_form_by, raw_form}
use Rattle.wt_expand.specs.Texts.{is_space, without_front, trimmed_items, name_text}
use Rattle.wt_expand.specs.Targets.{Called, argument, choice, function, page, text, called}
use Rattle.wt_expand.specs.Templates.{template_text}
use Rattle.wt_expand.specs.Work.{Pages, is_among}
use Rattle.wt_expand.specs.Expansion.{Output, just, joined, chars, lexeme_items, PartOutput, member_count, part_by, part_outputs, target_part, later_parts, Frame, value_of, values_from, Reading, default_output, if_value, opens_block, with_break, given_by, first_given, chosen_output, told_outputs, front_braces, back_braces, called_output, output_of, outputs_of, text_members, text_given, loop_text, depth_text, absent_text, fetched_output, template_output, most_templates, page_reading}
use Rattle.wt_expansion.proofs.SoundMembers.{IsSoundLexeme, IsCallHere, IsSoundMember, AreSoundMembers, text_sound}

-- ---- items

abbrev pub IsWholeItem : Item → Type 0
IsWholeItem (char o b) = Unit {0}
IsWholeItem (whole f o bs) = IsWhole f bs

abbrev pub AllWhole : List Item → Type 0
AllWhole [] = Unit {0}
AllWhole (x ∷ xs) = IsWholeItem x × AllWhole xs

pub whole_append : (xs ys : List Item) → AllWhole xs → AllWhole ys → AllWhole (xs ++ ys)
whole_append [] ys f g = g
whole_append (x ∷ xs) ys f g = (f.0, whole_append xs ys f.1 g)

whole_drop : (n : ℕ) (xs : List Item) → AllWhole xs → AllWhole (drop n xs)
whole_drop zero xs f = f
whole_drop (suc n) [] f = tt
whole_drop (suc n) (x ∷ xs) f = whole_drop n xs f.1

whole_reverse : (xs : List Item) → AllWhole xs → AllWhole (reverse xs)
whole_reverse [] f = tt
whole_reverse (x ∷ xs) f = subst AllWhole (sym (reverse-append (x ∷ []) xs)) (whole_append (reverse xs) (x ∷ []) (whole_reverse xs f.1) (f.0, tt))

whole_front : (p : Item → Bool) (xs : List Item) → AllWhole xs → AllWhole (without_front p xs)
whole_front p xs f = whole_drop _ xs f

whole_trimmed : (xs : List Item) → AllWhole xs → AllWhole (trimmed_items xs)
unfolding trimmed_items
whole_trimmed xs f =
    let p = is_char_in is_space in
    whole_reverse (without_front p (reverse (without_front p xs)))
    (whole_front p (reverse (without_front p xs)) (whole_reverse (without_front p xs) (whole_front p xs f)))

whole_by_char : (o : Option ℕ) (bs : List ℕ) → AllWhole (map (char o) bs)
whole_by_char o [] = tt
whole_by_char o (b ∷ bs) = (tt, whole_by_char o bs)

pub whole_chars : (bs : List ℕ) → AllWhole (chars bs)
whole_chars bs = whole_by_char None bs

whole_break : (at_start : Bool) (xs : List Item) → AllWhole xs → AllWhole (with_break at_start xs)
whole_break at_start xs f = by_test (opens_block xs && not at_start)
  where
    by_test : (t : Bool) → AllWhole (if t then char None 10 ∷ xs else xs)
    by_test true = (tt, f)
    by_test false = f

-- ---- lexemes

then_some : {A : Type 0} (t : Bool) (o : Option A) (a : A) → (if t then o else None) ≡ Some a → o ≡ Some a
then_some true o a e = e
then_some false o a e = absurd cc

RawBy : Option Tag → ItemForm → List ℕ → Type 0
RawBy o form.Nowiki bs = raw_by is_nowiki o bs ≡ Some (length bs)
RawBy o form.Extension bs = raw_by is_extension o bs ≡ Some (length bs)
RawBy o f bs = ⊥

raw_named : (t : Tag) (bs : List ℕ) (b : Bool) → is_nowiki t.name ≡ b → (raw_by is_nowiki (Some t) bs ≡ Some (length bs))
    ⊎ (raw_by is_extension (Some t) bs ≡ Some (length bs))
    → RawBy (Some t) (if b then form.Nowiki else form.Extension) bs
unfolding RawBy
raw_named t bs true e h =
    ap (λ v. if v then with_inside t bs else None) e
    ∙ ⊎_elim (then_some (is_nowiki t.name) (with_inside t bs) (length bs)) (then_some (is_extension t.name) (with_inside t bs) (length bs)) h
raw_named t bs false e h = ⊎_elim (λ k. absurd (let z : None ≡ Some (length bs) = sym (ap (λ v. if v then with_inside t bs else None) e) ∙ k in cc)) (λ k. k) h

raw_any : (o : Option Tag) (bs : List ℕ) → (raw_by is_nowiki o bs ≡ Some (length bs))
    ⊎ (raw_by is_extension o bs ≡ Some (length bs)) → RawBy o (raw_form_by o) bs
raw_any None bs h = ⊎_elim (λ k. absurd cc) (λ k. absurd cc) h
raw_any (Some t) bs h = raw_named t bs (is_nowiki t.name) refl h

raw_is : (f : ItemForm) (bs : List ℕ) → RawBy (opening_tag bs) f bs → IsWhole f bs
unfolding RawBy
raw_is form.Chars bs h = absurd h
raw_is (form.Entity c) bs h = absurd h
raw_is form.Nowiki bs h = h
raw_is form.Extension bs h = h
raw_is form.Function bs h = absurd h
raw_is form.Comment bs h = absurd h
raw_is form.Include bs h = absurd h
raw_is form.Hidden bs h = absurd h
raw_is form.EmptyCall bs h = absurd h

raw_item : (f : ItemForm) (bs : List ℕ) → IsWhole f bs → AllWhole (items_by f None bs)
raw_item form.Chars bs h = whole_by_char None bs
raw_item (form.Entity c) bs h = (h, tt)
raw_item form.Nowiki bs h = (h, tt)
raw_item form.Extension bs h = (h, tt)
raw_item form.Function bs h = (h, tt)
raw_item form.Comment bs h = (h, tt)
raw_item form.Include bs h = (h, tt)
raw_item form.Hidden bs h = (h, tt)
raw_item form.EmptyCall bs h = (h, tt)

raw_whole : (bs : List ℕ) → IsRawTag is_nowiki bs ⊎ IsRawTag is_extension bs → AllWhole (items_by (raw_form bs) None bs)
raw_whole bs h = raw_item (raw_form bs) bs (raw_is (raw_form bs) bs (raw_any (opening_tag bs) bs h))

pub whole_lexeme : (m : Mode) (kind : LexKind) (n : ℕ) (bs : List ℕ) → IsSoundLexeme m kind n bs → AllWhole (lexeme_items m kind (take n bs))
whole_lexeme mode.Page lex.Chars n bs h = whole_by_char None (take n bs)
whole_lexeme mode.Page lex.CommentLine n bs h = (h.whole, tt)
whole_lexeme mode.Page lex.Comment n bs h = (h.whole, tt)
whole_lexeme mode.Page lex.Raw n bs h = raw_whole (take n bs) h.whole
whole_lexeme mode.Page lex.Include n bs h = (h.whole, tt)
whole_lexeme mode.Page lex.Hidden n bs h = (h.whole, tt)
whole_lexeme mode.Page (lex.Entity c) n bs h = (h.whole, tt)
whole_lexeme mode.Page lex.Opens n bs h = whole_by_char None (take n bs)
whole_lexeme mode.Page lex.Closes n bs h = whole_by_char None (take n bs)
whole_lexeme mode.Page lex.LinkOpen n bs h = whole_by_char None (take n bs)
whole_lexeme mode.Page lex.LinkClose n bs h = whole_by_char None (take n bs)
whole_lexeme mode.Page lex.Pipe n bs h = whole_by_char None (take n bs)
whole_lexeme mode.Page lex.Equals n bs h = whole_by_char None (take n bs)
whole_lexeme mode.Template lex.Chars n bs h = whole_by_char None (take n bs)
whole_lexeme mode.Template lex.CommentLine n bs h = (h.whole, tt)
whole_lexeme mode.Template lex.Comment n bs h = (h.whole, tt)
whole_lexeme mode.Template lex.Raw n bs h = raw_whole (take n bs) h.whole
whole_lexeme mode.Template lex.Include n bs h = tt
whole_lexeme mode.Template lex.Hidden n bs h = tt
whole_lexeme mode.Template (lex.Entity c) n bs h = (h.whole, tt)
whole_lexeme mode.Template lex.Opens n bs h = whole_by_char None (take n bs)
whole_lexeme mode.Template lex.Closes n bs h = whole_by_char None (take n bs)
whole_lexeme mode.Template lex.LinkOpen n bs h = whole_by_char None (take n bs)
whole_lexeme mode.Template lex.LinkClose n bs h = whole_by_char None (take n bs)
whole_lexeme mode.Template lex.Pipe n bs h = whole_by_char None (take n bs)
whole_lexeme mode.Template lex.Equals n bs h = whole_by_char None (take n bs)

-- ---- outputs and values

abbrev AllOuts : List Output → Type 0
AllOuts [] = Unit {0}
AllOuts (o ∷ os) = AllWhole o.items × AllOuts os

outs_joined : (os : List Output) → AllOuts os → AllWhole (joined os).items
outs_joined [] f = tt
outs_joined (o ∷ os) f = whole_append o.items (joined os).items f.0 (outs_joined os f.1)

outs_take : (n : ℕ) (os : List Output) → AllOuts os → AllOuts (take n os)
outs_take zero os f = tt
outs_take (suc n) [] f = tt
outs_take (suc n) (o ∷ os) f = (f.0, outs_take n os f.1)

outs_drop : (n : ℕ) (os : List Output) → AllOuts os → AllOuts (drop n os)
outs_drop zero os f = f
outs_drop (suc n) [] f = tt
outs_drop (suc n) (o ∷ os) f = outs_drop n os f.1

abbrev OptWhole : Option Output → Type 0
OptWhole None = Unit {0}
OptWhole (Some o) = AllWhole o.items

record IsWholePart (p : PartOutput) : Type 0 where
  pub name : OptWhole p.name
  pub value : AllWhole p.value.items
  pub all : AllWhole p.all.items

abbrev AreWholeParts : List PartOutput → Type 0
AreWholeParts [] = Unit {0}
AreWholeParts (p ∷ ps) = IsWholePart p × AreWholeParts ps

whole_part : (name : Option (List Member × ℕ)) (os : List Output) → AllOuts os → IsWholePart (part_by name os)
whole_part None os f = record { name = tt; value = outs_joined os f; all = outs_joined os f }
whole_part (Some (xs, w)) os f = record {
  name = outs_joined (take (length xs) os) (outs_take (length xs) os f);
  value = outs_joined (drop (length xs + 1) os) (outs_drop (length xs + 1) os f);
  all = outs_joined os f;
}

whole_parts : (ps : List PartMembers) (os : List Output) → AllOuts os → AreWholeParts (part_outputs ps os)
whole_parts [] os f = tt
whole_parts (p ∷ ps) os f = (
  whole_part p.name (take (member_count p) os) (outs_take (member_count p) os f),
  whole_parts ps (drop (member_count p + 1) os) (outs_drop (member_count p + 1) os f),
)

whole_target : (ps : List PartOutput) → AreWholeParts ps → AllWhole (target_part ps).items
whole_target [] f = tt
whole_target (p ∷ ps) f = f.0.all

whole_later : (ps : List PartOutput) → AreWholeParts ps → AreWholeParts (later_parts ps)
whole_later [] f = tt
whole_later (p ∷ ps) f = f.1

abbrev pub IsWholeFrame : Frame → Type 0
IsWholeFrame [] = Unit {0}
IsWholeFrame ((n, v) ∷ vs) = AllWhole v × IsWholeFrame vs

one_value : (n : ℕ) (name : Option Output) (value all : Output) (ps : List PartOutput) → OptWhole name → AllWhole value.items
    → ((m : ℕ) → IsWholeFrame (values_from m ps)) → IsWholeFrame (values_from n (record { name = name; value = value; all = all } ∷ ps))
one_value n None v a ps f g h = (g, h (n + 1))
one_value n (Some o) v a ps f g h = (whole_trimmed v.items g, h n)

whole_values : (n : ℕ) (ps : List PartOutput) → AreWholeParts ps → IsWholeFrame (values_from n ps)
whole_values n [] f = tt
whole_values n (p ∷ ps) f = one_value n p.name p.value p.all ps f.0.name f.0.value (λ m. whole_values m ps f.1)

abbrev IsWholeValue : Option (List Item) → Type 0
IsWholeValue None = Unit {0}
IsWholeValue (Some v) = AllWhole v

whole_or : (o p : Option (List Item)) → IsWholeValue o → IsWholeValue p → IsWholeValue (option_or o p)
whole_or None p f g = g
whole_or (Some v) p f g = f

whole_if : (t : Bool) (v : List Item) → AllWhole v → IsWholeValue (if t then Some v else None)
whole_if true v f = f
whole_if false v f = tt

whole_value : (name : List ℕ) (frame : Frame) → IsWholeFrame frame → IsWholeValue (value_of name frame)
whole_value name [] f = tt
whole_value name ((n, v) ∷ vs) f = whole_or (value_of name vs) (if bytes_eq n name then Some v else None) (whole_value name vs f.1)
    (whole_if (bytes_eq n name) v f.0)

-- ---- calls

-- values that are whole give whole items
pub record IsWholeReading (r : Reading) : Type 0 where
  pub frame : IsWholeFrame r.frame
  pub template : (t : Title) (f : Frame) → IsWholeFrame f → AllWhole (r.template t f).items

whole_default : (name : Output) (ps : List PartOutput) → AllWhole name.items → AreWholeParts ps → AllWhole (default_output name ps).items
whole_default name [] f g =
    whole_append (chars (codes "{{{")) (name.items ++ chars (codes "}}}")) (whole_chars (codes "{{{"))
    (whole_append name.items (chars (codes "}}}")) f (whole_chars (codes "}}}")))
whole_default name (p ∷ ps) f g = g.0.all

whole_chosen : (o : Option (List Item)) (d : Output) → IsWholeValue o → AllWhole d.items → AllWhole (if_value o d).items
whole_chosen None d f g = g
whole_chosen (Some v) d f g = f

-- what a function gives of its parts
whole_given : (f : Function) (p : PartOutput) → IsWholePart p → AllWhole (given_by f p).items
whole_given If p h = h.all
whole_given IfEq p h = h.all
whole_given Switch p h = h.value

whole_behind : (n : ℕ) (ps : List PartOutput) → AreWholeParts ps → AreWholeParts (drop n ps)
whole_behind zero ps h = h
whole_behind (suc n) [] h = tt
whole_behind (suc n) (p ∷ ps) h = whole_behind n ps h.1

whole_first : (f : Function) (ps : List PartOutput) → AreWholeParts ps → AllWhole (first_given f ps).items
whole_first f [] h = tt
whole_first f (p ∷ ps) h = whole_given f p h.0

whole_choice : (f : Function) (o : Option ℕ) (ps : List PartOutput) → AreWholeParts ps → AllWhole (chosen_output f o ps).items
whole_choice f None ps h = tt
whole_choice f (Some part) ps h = whole_first f (drop part ps) (whole_behind part ps h)

whole_called : (c : Called) (r : Reading) (start : Bool) (k : ℕ) (source : List ℕ) (ps : List PartOutput) (os : List Output) → IsWholeReading r
    → IsWhole form.Function source → AreWholeParts ps → AllOuts os → AllWhole (called_output c r start k source ps os).items
whole_called argument r start k source ps os w s f g =
    let name = target_part ps in
    whole_chosen (value_of (name_text name.items) r.frame) (default_output name (later_parts ps)) (whole_value (name_text name.items) r.frame w.frame)
    (whole_default name (later_parts ps) (whole_target ps f) (whole_later ps f))
whole_called (choice c n) r start k source ps os w s f g =
    let equals = map (λ p. is_some p.name) (later_parts ps) in
    let texts = map (λ o. name_text o.items) (told_outputs c n ps) in
    let o = chosen_output c (chosen c equals texts) ps in
    whole_break start (trimmed_items o.items) (whole_trimmed o.items (whole_choice c (chosen c equals texts) ps f))
whole_called function r start k source ps os w s f g = (s, tt)
whole_called (page t) r start k source ps os w s f g =
    let values = values_from 1 (later_parts ps) in
    whole_break start (r.template t values).items (w.template t values (whole_values 1 (later_parts ps) (whole_later ps f)))
whole_called text r start k source ps os w s f g =
    whole_append (chars (front_braces k source)) ((joined os).items ++ chars (back_braces k source)) (whole_chars (front_braces k source))
    (whole_append (joined os).items (chars (back_braces k source)) (outs_joined os g) (whole_chars (back_braces k source)))

function_whole : (m : Mode) (bs : List ℕ) (k : ℕ) (ms : Members) → IsCallHere m bs k ms → IsWhole form.Function (take (k + width_of_all ms + k) bs)
function_whole mode.Page bs k ms h = inl h.is_call
function_whole mode.Template bs k ms h = inr h.is_call

mutual
  pub whole_one : (r : Reading) (start : Bool) (bs : List ℕ) (m : Member) → IsWholeReading r → IsSoundMember r.mode bs m
      → AllWhole (output_of r start bs m).items
  whole_one r start bs (lexeme (kind, n)) w f = whole_lexeme r.mode kind n bs f
  whole_one r start bs (call k ms) w f =
      let source = take (k + width_of_all ms + k) bs in
      let os = outputs_of r false (drop k bs) ms in
      let ps = part_outputs (part_members 0 ms) os in
      let inside = whole_all r false (drop k bs) ms w f.1 in
      whole_called (called k source (target_part ps).items) r start k source ps os w (function_whole r.mode bs k ms f.0)
      (whole_parts (part_members 0 ms) os inside) inside

  whole_all : (r : Reading) (start : Bool) (bs : List ℕ) (ms : Members) → IsWholeReading r → AreSoundMembers r.mode bs ms → AllOuts (outputs_of r start bs ms)
  whole_all r start bs none w f = tt
  whole_all r start bs (more m ms) w f = (
    whole_one r start bs m w f.0,
    whole_all r (is_break (slice_index bs (width m - 1))) (drop (width m) bs) ms w f.1,
  )

whole_text : (r : Reading) (bs : List ℕ) → IsWholeReading r → AllWhole (text_given r bs).items
whole_text r bs w =
    outs_joined (outputs_of r true bs (text_members r.mode bs)) (whole_all r true bs (text_members r.mode bs) w (text_sound r.mode bs))

-- ---- templates

whole_fetched : (full : List ℕ) (read : List ℕ → Output) (found : Option (List ℕ)) → ((bs : List ℕ) → AllWhole (read bs).items)
    → AllWhole (fetched_output full read found).items
whole_fetched full read None f = whole_chars (absent_text full)
whole_fetched full read (Some bytes) f = f (template_text bytes)

pub whole_template : (pages : Pages) (left : ℕ) (titles : List (List ℕ)) (t : Title) (frame : Frame) → IsWholeFrame frame
    → AllWhole (template_output pages left titles t frame).items
whole_template pages zero titles t frame f = whole_chars (if is_among (full_name_of t) titles then loop_text t else depth_text t)
whole_template pages (suc n) titles t frame f =
    let full = full_name_of t in
    let r : Reading = record { mode = mode.Template; frame = frame; template = template_output pages n (full ∷ titles) } in
    by_test (is_among full titles)
    (whole_fetched full (text_given r) (pages full)
    (λ bs. whole_text r bs (record { frame = f; template = λ u v h. whole_template pages n (full ∷ titles) u v h })))
  where
    by_test : (b : Bool) → AllWhole (fetched_output (full_name_of t)
        (text_given (record { mode = mode.Template; frame = frame; template = template_output pages n (full_name_of t ∷ titles) }))
        (pages (full_name_of t))).items
        → AllWhole (if b then just (chars (loop_text t)) else fetched_output (full_name_of t)
        (text_given (record { mode = mode.Template; frame = frame; template = template_output pages n (full_name_of t ∷ titles) }))
        (pages (full_name_of t))).items
    by_test true h = whole_chars (loop_text t)
    by_test false h = h

-- what the page is read with
pub page_whole : (pages : Pages) → IsWholeReading (page_reading pages)
page_whole pages = record { frame = tt; template = λ t f h. whole_template pages most_templates [] t f h }

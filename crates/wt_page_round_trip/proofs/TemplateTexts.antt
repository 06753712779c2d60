-- The texts of templates, of titles and of targets are UTF-8 where what they are made of is; and what work that isn't refused entered.
use Rattle.std.proofs.Common.{◌≡◌, ℕ, zero, suc, ◌+◌, Bool, true, false, Option, Some, None, List, [], ◌∷◌, ◌++◌, length, drop, codes, IsUtf8, refl, sym, ap, ◌∙◌, subst, arith, append_assoc, append-nil}
use Rattle.std.specs.Prelude.{◌&&◌, ◌==◌, nat_lt, slice_index, if◌then◌else◌}
use Rattle.std.specs.Option.{option_or, option_map, option_and_then}
use Rattle.std.specs.Str.{is_utf8}
use Rattle.std.specs.Str.Lossy.{utf8_valid_len}
use Rattle.std.proofs.lemmas.Bool.{eqb-true}
use Rattle.std.proofs.lemmas.Str.{IsUtf8-nil, IsUtf8-append, IsUtf8-from_is_utf8}
use Rattle.json.proofs.Printed.Utf8.{IsUtf8-are_ascii}
use Rattle.wt_span.specs.declared.form.Mode.TheVariants as mode
use Rattle.wt_span.specs.declared.form.ItemForm.{ItemForm}
use Rattle.wt_span.specs.declared.form.ItemForm.TheVariants as form
use Rattle.wt_span.specs.Items.{Item, char, whole}
use Rattle.wt_names.specs.declared.namespace.Ns.{Ns}
use Rattle.wt_names.specs.declared.namespace.Ns.TheVariants.{Main, Talk, User, UserTalk, Project, ProjectTalk, File, FileTalk, Template, TemplateTalk, Help, HelpTalk, Category, CategoryTalk}
use Rattle.wt_names.specs.declared.title.Title.{Title}
use Rattle.wt_names.specs.Namespace.{name_of, prefix_of, full_name_of}
use Rattle.wt_names.specs.Good.{is_allowed, is_good, read_text}
use Rattle.wt_names.specs.Reading.{title_in}
use Rattle.wt_names.proofs.Utf8.{title_utf8, utf8_around}
use Rattle.wt_names.proofs.Words.{begins_rest}
use Rattle.wt_utf8.specs.Begun.{begun_len}
use Rattle.wt_utf8.specs.Places.{not_utf8_place}
use Rattle.wt_expand.specs.Texts.{trimmed, target_of_form, both, target_text}
use Rattle.wt_expand.specs.Targets.{is_main, is_template, as_template, if_good, placed_title, if_whole, without_fragment, title_behind, title_in_target, title_of_target}
use Rattle.wt_expand.specs.Templates.{begins_only, ends_only, has_only, insides, template_text}
use Rattle.wt_expand.specs.Work.{Pages, Entry, entered, begun, fetched, ended, Refused, not_utf8, too_long, braces_too_deep, most_bytes, deep_place, template_refusal, found_refusal, entry_refusal, refusal_from, first_refusal, cost_of}
use Rattle.wt_expand.specs.Expansion.{short_name, loop_text, depth_text, absent_text}
use Rattle.wt_page_round_trip.proofs.TextItems.{before_low}
use Rattle.wt_page_round_trip.proofs.OfPage.{IsPageForm}
use Rattle.wt_page_round_trip.proofs.Forms.{entity_utf8}
use Rattle.wt_page_round_trip.proofs.GivenItems.{AreGiven, trimmed_utf8}

-- ---- what stands between the tags of `<onlyinclude>`

begin_word : (bs : List ℕ) → begins_only bs ≡ true → bs ≡ codes "<onlyinclude>" ++ drop 13 bs
unfolding begins_only
begin_word bs e = begins_rest (codes "<onlyinclude>") bs e

end_word : (bs : List ℕ) → ends_only bs ≡ true → bs ≡ codes "</onlyinclude>" ++ drop 14 bs
unfolding ends_only
end_word bs e = begins_rest (codes "</onlyinclude>") bs e

-- a tag is cut off
record IsCutOff (run : List ℕ) (n : ℕ) (bs : List ℕ) : Type 0 where
  before : IsUtf8 run
  behind : IsUtf8 (drop n bs)

begin_cut : (run bs : List ℕ) → begins_only bs ≡ true → IsUtf8 (run ++ bs) → IsCutOff run 13 bs
begin_cut run bs e u =
    let w = begin_word bs e in
    let q : IsUtf8 run × IsUtf8 (codes "<onlyinclude>" ++ drop 13 bs) =
    before_low run 60 (omega arith) (codes "onlyinclude>" ++ drop 13 bs) (subst (λ xs. IsUtf8 (run ++ xs)) w u) in
    record { before = q.0; behind = (utf8_around (codes "<onlyinclude") (drop 13 bs) 62 (omega arith) q.1).1 }

end_cut : (run bs : List ℕ) → ends_only bs ≡ true → IsUtf8 (run ++ bs) → IsCutOff run 14 bs
end_cut run bs e u =
    let w = end_word bs e in
    let q : IsUtf8 run × IsUtf8 (codes "</onlyinclude>" ++ drop 14 bs) =
    before_low run 60 (omega arith) (codes "/onlyinclude>" ++ drop 14 bs) (subst (λ xs. IsUtf8 (run ++ xs)) w u) in
    record { before = q.0; behind = (utf8_around (codes "</onlyinclude") (drop 14 bs) 62 (omega arith) q.1).1 }

none_dropped : (xs : List ℕ) → xs ≡ drop 0 xs
none_dropped [] = refl
none_dropped (x ∷ xs) = refl

from_begin : (t : Bool) (run : List ℕ) (b : ℕ) (bs : List ℕ) → begins_only (b ∷ bs) ≡ t → IsUtf8 (run ++ (b ∷ bs))
    → (IsUtf8 (drop 12 bs) → IsUtf8 (insides 12 true bs)) → (IsUtf8 ((run ++ b ∷ []) ++ drop 0 bs) → IsUtf8 (insides zero false bs))
    → IsUtf8 (if t then insides 12 true bs else insides zero false bs)
from_begin true run b bs e u f g = f (begin_cut run (b ∷ bs) e u).behind
from_begin false run b bs e u f g = g (subst IsUtf8 (sym (append_assoc run (b ∷ []) bs) ∙ ap (λ xs. (run ++ b ∷ []) ++ xs) (none_dropped bs)) u)

from_end : (t : Bool) (run : List ℕ) (b : ℕ) (bs : List ℕ) → ends_only (b ∷ bs) ≡ t → IsUtf8 (run ++ (b ∷ bs))
    → (IsUtf8 (drop 13 bs) → IsUtf8 (insides 13 false bs)) → (IsUtf8 ((run ++ b ∷ []) ++ drop 0 bs) → IsUtf8 ((run ++ b ∷ []) ++ insides zero true bs))
    → IsUtf8 (run ++ (if t then insides 13 false bs else b ∷ insides zero true bs))
from_end true run b bs e u f g = let c = end_cut run (b ∷ bs) e u in IsUtf8-append run (insides 13 false bs) c.before (f c.behind)
from_end false run b bs e u f g = subst IsUtf8 (append_assoc run (b ∷ []) (insides zero true bs))
    (g (subst IsUtf8 (sym (append_assoc run (b ∷ []) bs) ∙ ap (λ xs. (run ++ b ∷ []) ++ xs) (none_dropped bs)) u))

mutual
  outside : (n : ℕ) (run bs : List ℕ) → IsUtf8 (run ++ drop n bs) → IsUtf8 (insides n false bs)
  outside n run [] u = IsUtf8-nil
  outside (suc n) run (b ∷ bs) u = outside n run bs u
  outside zero run (b ∷ bs) u =
      from_begin (begins_only (b ∷ bs)) run b bs refl u (λ v. within 12 [] bs v) (λ v. outside zero (run ++ b ∷ []) bs v)

  within : (n : ℕ) (run bs : List ℕ) → IsUtf8 (run ++ drop n bs) → IsUtf8 (run ++ insides n true bs)
  within zero run [] u = u
  within (suc n) run [] u = u
  within (suc n) run (b ∷ bs) u = within n run bs u
  within zero run (b ∷ bs) u =
      from_end (ends_only (b ∷ bs)) run b bs refl u (λ v. outside 13 [] bs v) (λ v. within zero (run ++ b ∷ []) bs v)

pub template_utf8 : (bs : List ℕ) → IsUtf8 bs → IsUtf8 (template_text bs)
unfolding template_text
template_utf8 bs u = by_test (has_only bs)
  where
    by_test : (t : Bool) → IsUtf8 (if t then insides 0 false bs else bs)
    by_test true = outside 0 [] bs (subst IsUtf8 (none_dropped bs) u)
    by_test false = u

-- ---- names

pub prefix_utf8 : (ns : Ns) → IsUtf8 (prefix_of ns)
unfolding prefix_of name_of
prefix_utf8 Main = IsUtf8-nil
prefix_utf8 Talk = IsUtf8-are_ascii (codes "Talk:") refl
prefix_utf8 User = IsUtf8-are_ascii (codes "User:") refl
prefix_utf8 UserTalk = IsUtf8-are_ascii (codes "User talk:") refl
prefix_utf8 Project = IsUtf8-are_ascii (codes "Project:") refl
prefix_utf8 ProjectTalk = IsUtf8-are_ascii (codes "Project talk:") refl
prefix_utf8 File = IsUtf8-are_ascii (codes "File:") refl
prefix_utf8 FileTalk = IsUtf8-are_ascii (codes "File talk:") refl
prefix_utf8 Template = IsUtf8-are_ascii (codes "Template:") refl
prefix_utf8 TemplateTalk = IsUtf8-are_ascii (codes "Template talk:") refl
prefix_utf8 Help = IsUtf8-are_ascii (codes "Help:") refl
prefix_utf8 HelpTalk = IsUtf8-are_ascii (codes "Help talk:") refl
prefix_utf8 Category = IsUtf8-are_ascii (codes "Category:") refl
prefix_utf8 CategoryTalk = IsUtf8-are_ascii (codes "Category talk:") refl

full_utf8 : (t : Title) → IsUtf8 t.name → IsUtf8 (full_name_of t)
unfolding full_name_of
full_utf8 t u = IsUtf8-append (prefix_of t.ns) t.name (prefix_utf8 t.ns) u

short_utf8 : (t : Title) → IsUtf8 t.name → IsUtf8 (short_name t)
short_utf8 t u = by_test (is_template t.ns)
  where
    by_test : (b : Bool) → IsUtf8 (if b then t.name else full_name_of t)
    by_test true = u
    by_test false = full_utf8 t u

pub loop_utf8 : (t : Title) → IsUtf8 t.name → IsUtf8 (loop_text t)
unfolding loop_text
loop_utf8 t u = IsUtf8-append (codes "Template loop: ") (short_name t) (IsUtf8-are_ascii (codes "Template loop: ") refl) (short_utf8 t u)

pub depth_utf8 : (t : Title) → IsUtf8 t.name → IsUtf8 (depth_text t)
unfolding depth_text
depth_utf8 t u = IsUtf8-append (codes "Template depth: ") (short_name t) (IsUtf8-are_ascii (codes "Template depth: ") refl) (short_utf8 t u)

pub absent_utf8 : (t : Title) → IsUtf8 t.name → IsUtf8 (absent_text (full_name_of t))
unfolding absent_text
absent_utf8 t u = IsUtf8-append (codes "[[:") (full_name_of t ++ codes "]]") (IsUtf8-are_ascii (codes "[[:") refl)
    (IsUtf8-append (full_name_of t) (codes "]]") (full_utf8 t u) (IsUtf8-are_ascii (codes "]]") refl))

-- ---- titles

abbrev pub HasTextName : Option Title → Type 0
HasTextName None = Unit {0}
HasTextName (Some t) = IsUtf8 t.name

read_named : (text : List ℕ) → IsUtf8 text → HasTextName (read_text text)
unfolding read_text
read_named text u = by_test (is_allowed text && is_good (title_in text))
  where
    by_test : (b : Bool) → HasTextName (if b then Some (title_in text) else None)
    by_test true = (title_utf8 text u).0
    by_test false = tt

unbroken_named : (o : Option Title) → HasTextName o → HasTextName (option_and_then without_fragment o)
unbroken_named None h = tt
unbroken_named (Some t) h = by_fragment t.fragment
  where
    by_fragment : (f : Option (List ℕ)) → HasTextName (if_whole f t)
    by_fragment None = h
    by_fragment (Some s) = tt

placed_named : (colon : Bool) (o : Option Title) → HasTextName o → HasTextName (option_and_then (placed_title colon) o)
placed_named colon None h = tt
placed_named true (Some t) h = h
placed_named false (Some t) h = by_main (is_main t.ns)
  where
    by_good : (b : Bool) → HasTextName (if b then Some (as_template t) else None)
    by_good true = h
    by_good false = tt

    by_main : (b : Bool) → HasTextName (if b then if_good (as_template t) else Some t)
    by_main true = by_good (is_good (as_template t))
    by_main false = h

behind_named : (colon : Bool) (text : List ℕ) → (colon ≡ true → slice_index text 0 ≡ 58) → IsUtf8 text → HasTextName (title_behind colon text)
behind_named true text e u =
    placed_named true (option_and_then without_fragment (read_text (drop 1 text))) (unbroken_named (read_text (drop 1 text))
    (read_named (drop 1 text) (behind_colon text (e refl) u)))
  where
    behind_colon : (bs : List ℕ) → slice_index bs 0 ≡ 58 → IsUtf8 bs → IsUtf8 (drop 1 bs)
    behind_colon [] f v = IsUtf8-nil
    behind_colon (b ∷ bs) f v = subst IsUtf8 (none_dropped bs) (utf8_around [] bs b (let z : b ≡ 58 = f in omega arith) v).1
behind_named false text e u =
    placed_named false (option_and_then without_fragment (read_text text)) (unbroken_named (read_text text) (read_named text u))

in_target_named : (text : List ℕ) → IsUtf8 text → HasTextName (title_in_target text)
unfolding title_in_target
in_target_named text u =
    let bs = trimmed text in
    behind_named (slice_index bs 0 == 58) bs (λ e. eqb-true (slice_index bs 0) 58 e) (trimmed_utf8 text u)

-- ---- targets

abbrev OptText : List ℕ → Option (List ℕ) → Type 0
OptText run None = Unit {0}
OptText run (Some bs) = IsUtf8 (run ++ bs)

both_text : (run : List ℕ) (a b : Option (List ℕ)) → IsUtf8 run → OptText [] a → OptText [] b → OptText run (both a b)
both_text run None b u f g = tt
both_text run (Some bs) None u f g = tt
both_text run (Some bs) (Some cs) u f g = IsUtf8-append run (bs ++ cs) u (IsUtf8-append bs cs f g)

more_text : (run : List ℕ) (b : ℕ) (o : Option (List ℕ)) → OptText (run ++ b ∷ []) o → OptText run (both (Some (b ∷ [])) o)
more_text run b None h = tt
more_text run b (Some cs) h = subst IsUtf8 (append_assoc run (b ∷ []) cs) h

form_text : (f : ItemForm) (bs : List ℕ) → IsPageForm f bs → OptText [] (target_of_form f bs)
form_text form.Chars bs h = absurd h
form_text (form.Entity c) bs h = entity_utf8 c bs h.0
form_text form.Nowiki bs h = tt
form_text form.Extension bs h = tt
form_text form.Function bs h = tt
form_text form.Comment bs h = IsUtf8-nil
form_text form.Include bs h = IsUtf8-nil
form_text form.Hidden bs h = IsUtf8-nil
form_text form.EmptyCall bs h = IsUtf8-nil

target_text_utf8 : (run : List ℕ) (xs : List Item) → AreGiven run xs → OptText run (target_text xs)
target_text_utf8 run [] h = subst IsUtf8 (sym (append-nil run)) h
target_text_utf8 run (char o b ∷ xs) h = more_text run b (target_text xs) (target_text_utf8 (run ++ b ∷ []) xs h.1)
target_text_utf8 run (whole f o bs ∷ xs) h =
    both_text run (target_of_form f bs) (target_text xs) h.0 (form_text f bs (let i = h.2 in i.1)) (target_text_utf8 [] xs h.3)

-- the title that a target names
pub target_named : (xs : List Item) → AreGiven [] xs → HasTextName (title_of_target xs)
unfolding title_of_target
target_named xs h = by_text (target_text xs) (target_text_utf8 [] xs h)
  where
    by_text : (o : Option (List ℕ)) → OptText [] o → HasTextName (option_and_then title_in_target o)
    by_text None u = tt
    by_text (Some text) u = in_target_named text u

-- ---- work that isn't refused

-- where a page is there it is UTF-8
abbrev pub IsTextIfAny : Option (List ℕ) → Type 0
IsTextIfAny None = Unit {0}
IsTextIfAny (Some bytes) = IsUtf8 bytes

-- each template that is entered is UTF-8
abbrev pub IsTextEntry : Pages → Entry → Type 0
IsTextEntry pages (entered None) = Unit {0}
IsTextEntry pages (entered (Some full)) = IsTextIfAny (pages full)
IsTextEntry pages begun = Unit {0}
IsTextEntry pages (fetched full) = Unit {0}
IsTextEntry pages (ended n) = Unit {0}

abbrev pub AreTextEntries : Pages → List Entry → Type 0
AreTextEntries pages [] = Unit {0}
AreTextEntries pages (e ∷ es) = IsTextEntry pages e × AreTextEntries pages es

pub entries_left : (pages : Pages) (es fs : List Entry) → AreTextEntries pages (es ++ fs) → AreTextEntries pages es
entries_left pages [] fs h = tt
entries_left pages (e ∷ es) fs h = (h.0, entries_left pages es fs h.1)

pub entries_right : (pages : Pages) (es fs : List Entry) → AreTextEntries pages (es ++ fs) → AreTextEntries pages fs
entries_right pages [] fs h = h
entries_right pages (e ∷ es) fs h = entries_right pages es fs h.1

both_none : {A : Type 0} (a b : Option A) → option_or a b ≡ None → (a ≡ None) × (b ≡ None)
both_none None b e = (refl, e)
both_none (Some x) b e = absurd cc

abbrev refusal_by : Bool → List ℕ → List ℕ → Option Refused
refusal_by t title bytes = if t then Some (too_long title) else option_or (option_map (not_utf8 title) (not_utf8_place bytes))
    (option_map (braces_too_deep (Some title)) (deep_place mode.Template (template_text bytes)))

refusal_is : (title bytes : List ℕ) → template_refusal title bytes ≡ refusal_by (nat_lt most_bytes (length bytes)) title bytes
unfolding template_refusal
refusal_is title bytes = refl

place_none : (title bytes : List ℕ) (t : Bool) → refusal_by t title bytes ≡ None → option_map (not_utf8 title) (not_utf8_place bytes) ≡ None
place_none title bytes true e = absurd cc
place_none title bytes false e = (both_none _ _ e).0

place_by : (t : Bool) (title bytes : List ℕ) (place : ℕ) → is_utf8 bytes ≡ t → option_map (not_utf8 title) (if t then None else Some place) ≡ None
    → IsUtf8 bytes
place_by true title bytes place f e = IsUtf8-from_is_utf8 bytes f
place_by false title bytes place f e = absurd cc

whole_text : (title bytes : List ℕ) → option_map (not_utf8 title) (not_utf8_place bytes) ≡ None → IsUtf8 bytes
unfolding not_utf8_place
whole_text title bytes e = place_by (is_utf8 bytes) title bytes (utf8_valid_len bytes + begun_len (drop (utf8_valid_len bytes) bytes)) refl e

found_text : (title : List ℕ) (o : Option (List ℕ)) → found_refusal title o ≡ None → IsTextIfAny o
found_text title None e = tt
found_text title (Some bytes) e =
    whole_text title bytes (place_none title bytes (nat_lt most_bytes (length bytes)) (sym (refusal_is title bytes) ∙ e))

entry_text : (pages : Pages) (page : List ℕ) (cost : ℕ) (e : Entry) → entry_refusal pages page cost e ≡ None → IsTextEntry pages e
entry_text pages page cost (entered None) e = tt
entry_text pages page cost (entered (Some full)) e = found_text full (pages full) e
entry_text pages page cost begun e = tt
entry_text pages page cost (fetched full) e = tt
entry_text pages page cost (ended n) e = tt

entries_text : (pages : Pages) (page : List ℕ) (spent : ℕ) (es : List Entry) → refusal_from pages page spent es ≡ None → AreTextEntries pages es
entries_text pages page spent [] e = tt
entries_text pages page spent (x ∷ es) e =
    let q = both_none (entry_refusal pages page (spent + cost_of x) x) (refusal_from pages page (spent + cost_of x) es) e in
    (entry_text pages page (spent + cost_of x) x q.0, entries_text pages page (spent + cost_of x) es q.1)

pub unrefused_text : (pages : Pages) (page : List ℕ) (es : List Entry) → first_refusal pages page es ≡ None → AreTextEntries pages es
unfolding first_refusal
unrefused_text pages page es e = entries_text pages page 0 es e

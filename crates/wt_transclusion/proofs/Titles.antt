-- Titles in the namespace of templates.
use Rattle.std.proofs.Common.{◌≡◌, ℕ, ◌<◌, Bool, true, false, ◌&&◌, not, cond, Option, Some, None, List, [], ◌∷◌, ◌++◌, get_or, codes, refl, sym, ap, ◌∙◌, arith, append-nil}
use Rattle.std.specs.Prelude.{slice_index, ◌==◌, is_some}
use Rattle.std.specs.Str.{bytes_eq, IsUtf8, IsCharBoundary}
use Rattle.std.proofs.lemmas.Bool.Decides.{nat_tests}
use Rattle.std.proofs.lemmas.Slice.Eq.{bytes_eq-Decides}
use Rattle.std.proofs.lemmas.Str.{IsCharBoundary-after_ascii}
use Rattle.wt_names.specs.declared.namespace.Ns.{Ns}
use Rattle.wt_names.specs.declared.namespace.Ns.TheVariants as ns
use Rattle.wt_names.specs.declared.title.Title.{Title}
use Rattle.wt_names.specs.Namespace.{name_of, prefix_of, full_name_of}
use Rattle.wt_names.specs.Good.{is_good, read_text}
use Rattle.wt_names.specs.Tidy.{IsTidy}
use Rattle.wt_names.proofs.Readings.{read_tidy}
use Rattle.wt_names.proofs.Links.{text_back}
use Rattle.wt_expand.specs.Targets.{is_template, as_template, if_good}
use Rattle.wt_transclusion.specs.Target.{is_that_template}

-- the template of a name
abbrev template : List ℕ → Title
template name = record { ns = ns.Template; name = name; fragment = None }

as_is : (t : Title) → t.fragment ≡ None → as_template t ≡ template t.name
as_is t e = ap (λ f. let r : Title = record { ns = ns.Template; name = t.name; fragment = f } in r) e

full_is : (name : List ℕ) → full_name_of (template name) ≡ codes "Template:" ++ name
unfolding full_name_of prefix_of name_of
full_is name = refl

tidy_template : (t : Title) → IsTidy t → is_good (template t.name) ≡ true → IsTidy (template t.name)
tidy_template t h good = record {
  bytes = h.bytes;
  single = h.single;
  ends = h.ends;
  first = h.first;
  main = λ e. absurd
      (let z : ns.Template ≡ ns.Main = e in cc);
  fragment = tt;
  good = good;
}

-- a good one is read from its full name
reads_good : (t : Title) → IsTidy t → is_good (template t.name) ≡ true → read_text (codes "Template:" ++ t.name) ≡ Some (template t.name)
reads_good t h good = ap read_text (sym (append-nil _ ∙ full_is t.name)) ∙ text_back (template t.name) (tidy_template t h good)

ns_is : (n : Ns) → is_template n ≡ true → n ≡ ns.Template
ns_is ns.Main e = cc
ns_is ns.Talk e = cc
ns_is ns.User e = cc
ns_is ns.UserTalk e = cc
ns_is ns.Project e = cc
ns_is ns.ProjectTalk e = cc
ns_is ns.File e = cc
ns_is ns.FileTalk e = cc
ns_is ns.Template e = refl
ns_is ns.TemplateTalk e = cc
ns_is ns.Help e = cc
ns_is ns.HelpTalk e = cc
ns_is ns.Category e = cc
ns_is ns.CategoryTalk e = cc

record Parts (a b c : Bool) : Type 0 where
  first : a ≡ true
  second : b ≡ true
  third : c ≡ true

parts : (a b c : Bool) → (a && (b && c)) ≡ true → Parts a b c
parts true true true e = record { first = refl; second = refl; third = refl }
parts true true false e = cc
parts true false c e = cc
parts false b c e = cc

none_is : (f : Option (List ℕ)) → not (is_some f) ≡ true → f ≡ None
none_is None e = refl
none_is (Some x) e = cc

is_that : (t : Title) (name : List ℕ) → is_that_template t name ≡ true → t ≡ template name
is_that t name e =
    let p = parts (is_template t.ns) (bytes_eq t.name name) (not (is_some t.fragment)) e in
    let n = ns_is t.ns p.first in
    let m = (bytes_eq-Decides t.name name).0 p.second in
    let f = none_is t.fragment p.third in
    ap (λ x. let r : Title = record { ns = x; name = t.name; fragment = t.fragment } in r) n
    ∙ ap (λ x. let r : Title = record { ns = ns.Template; name = x; fragment = t.fragment } in r) m
    ∙ ap (λ x. let r : Title = record { ns = ns.Template; name = name; fragment = x } in r) f

that_is : (name : List ℕ) → is_that_template (template name) name ≡ true
that_is name = ap (λ b. b && true) ((bytes_eq-Decides name name).1 refl)

good_by : (t : Title) → is_good t ≡ true → if_good t ≡ Some t
good_by t e = ap (λ b. cond b (Some t) None) e

bad_by : (t : Title) → is_good t ≡ false → if_good t ≡ None
bad_by t e = ap (λ b. cond b (Some t) None) e

-- the title that was read is it
pub template_found : (t read : Title) (full : List ℕ) → IsTidy t → t.fragment ≡ None → full ≡ codes "Template:" ++ t.name → Some read ≡ read_text full
    → is_that_template read t.name ≡ true → Some read ≡ if_good (as_template t)
template_found t read full h whole f e that =
    let same = is_that read t.name that in
    let good : is_good (template t.name) ≡ true = ap is_good (sym same) ∙ (read_tidy full read (sym e)).good in
    ap Some same ∙ sym (good_by (template t.name) good) ∙ ap if_good (sym (as_is t whole))

none_good : (t : Title) → t.fragment ≡ None → (is_good (template t.name) ≡ true → ⊥) → None ≡ if_good (as_template t)
none_good t whole bad = sym (ap if_good (as_is t whole) ∙ by_test (is_good (template t.name)) refl)
  where
    by_test : (b : Bool) → is_good (template t.name) ≡ b → if_good (template t.name) ≡ None
    by_test true e = absurd (bad e)
    by_test false e = bad_by (template t.name) e

-- another one is
pub template_other : (t read : Title) (full : List ℕ) → IsTidy t → t.fragment ≡ None → full ≡ codes "Template:" ++ t.name → Some read ≡ read_text full
    → is_that_template read t.name ≡ false → None ≡ if_good (as_template t)
template_other t read full h whole f e other =
    none_good t whole (λ good.
    let z : Some read ≡ Some (template t.name) = e ∙ ap read_text f ∙ reads_good t h good in
    let same : read ≡ template t.name = cc in
    let yes = ap (λ r. is_that_template r t.name) same ∙ that_is t.name in
    let no : true ≡ false = sym yes ∙ other in
    absurd cc)

-- none is
pub template_none : (t : Title) (full : List ℕ) → IsTidy t → t.fragment ≡ None → full ≡ codes "Template:" ++ t.name → None ≡ read_text full
    → None ≡ if_good (as_template t)
template_none t full h whole f e =
    none_good t whole (λ good. absurd (let z : None ≡ Some (template t.name) = e ∙ ap read_text f ∙ reads_good t h good in cc))

-- behind a first colon
pub colon_border : (bs : List ℕ) → IsUtf8 bs → (slice_index bs 0 == 58) ≡ true → IsCharBoundary bs 1
colon_border [] u e = absurd (let z : false ≡ true = e in cc)
colon_border (b ∷ bs) u e =
    let is : b ≡ 58 = grind (arith, nat_tests) in
    let low : get_or (b ∷ bs) 0 0 < 128 = omega (arith, is) in
    IsCharBoundary-after_ascii (b ∷ bs) 0 u (omega arith) low

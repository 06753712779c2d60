-- What is read is tidy, and what is tidy is read.
use Rattle.std.proofs.Common.{◌≡◌, ℕ, ◌<◌, Bool, true, false, not, ◌||◌, ◌&&◌, nat_eq, nat_lt, Option, Some, None, option_map, unwrap_or, MatchOption, IfSome, List, [], ◌∷◌, ◌++◌, length, refl, sym, ap, ◌∙◌, subst, inl, inr, arith, append_assoc, length-append}
use Rattle.std.specs.List.{list_any}
use Rattle.std.specs.Char.{to_ascii_uppercase}
use Rattle.std.proofs.lemmas.Bool.{cond-true, cases_lt}
use Rattle.std.proofs.lemmas.Bool.Decides.{nat_tests}
use Rattle.std.proofs.lemmas.Option.{cond_some}
use Rattle.std.proofs.lemmas.List.{append-nil}
use Rattle.wt_names.proofs.Ascii.{upper_wide}
use Rattle.wt_names.proofs.Escapes.{below_by_test}
use Rattle.wt_names.specs.declared.namespace.Ns.{Ns}
use Rattle.wt_names.specs.declared.namespace.Ns.TheVariants.{Main}
use Rattle.wt_names.specs.declared.title.Title.{Title}
use Rattle.wt_names.specs.Namespace.{name_of, namespace_named, prefix_of, full_name_of}
use Rattle.wt_names.specs.Reading.{spaced, split_once, squeezed, begins_with_space, trimmed, raised, page_part, fragment_part, whole_in, named_part, cut_namespace, title_from, spaced_title, title_in}
use Rattle.wt_names.specs.Good.{is_forbidden, is_allowed, is_named, is_good, is_some_text, read_text}
use Rattle.wt_names.specs.Tidy.{is_no_fragment_byte, is_no_name_byte, IsTidyFragment, IsTidy, fragment_suffix, text_of}
use Rattle.wt_names.proofs.Lacks.{Lacks, both_false, lacks_from_any, any_from_lacks, lacks_weaker, lacks_append, lacks_left, lacks_right, lacks_squeezed, lacks_trimmed, lacks_raised, lacks_replaced, lacks_replaced_byte}
use Rattle.wt_names.proofs.Tidy.{IsSingle, single_squeezed, squeezed_single, single_right, single_trimmed, single_raised, begins_same, ends_same, trimmed_same, trimmed-trimmed, trimmed-raised, raised-raised, trimmed_end-append}
use Rattle.wt_names.proofs.Prefixes.{is_sign, split_view, split_lacking, split_between, IsNotMain, named_not_main, named_part-raised, IsPrefixed, named_or_main}

-- ---- what is read is tidy

-- the part that names a namespace, or the whole in the main one
abbrev part_or : Option (Ns × List ℕ) → List ℕ → Ns × List ℕ
part_or o w = unwrap_or o (Main, w)

-- the bytes of a name, with single spaces and none at its ends
record IsPlain (bs : List ℕ) : Type 0 where
  bytes : Lacks is_no_name_byte bs
  single : IsSingle bs
  ends : trimmed bs ≡ bs

pub both_lack : (s t : ℕ → Bool) (bs : List ℕ) → Lacks s bs → Lacks t bs → Lacks (λ b. s b || t b) bs
both_lack s t [] l m = tt
both_lack s t (b ∷ bs) l m = (ap (λ x. x || t b) l.0 ∙ m.0, both_lack s t bs l.1 m.1)

pub first_lacks : (s t : ℕ → Bool) (bs : List ℕ) → Lacks (λ b. s b || t b) bs → Lacks s bs
first_lacks s t bs l = lacks_weaker (λ b. s b || t b) s (λ b e. (both_false (s b) (t b) e).0) bs l

pub second_lacks : (s t : ℕ → Bool) (bs : List ℕ) → Lacks (λ b. s b || t b) bs → Lacks t bs
second_lacks s t bs l = lacks_weaker (λ b. s b || t b) t (λ b e. (both_false (s b) (t b) e).1) bs l

page_lacks : (s : List ℕ) (o : Option (List ℕ × List ℕ)) → MatchOption o (Lacks (is_sign 35) s) (λ p. (s ≡ p.0 ++ 35 ∷ p.1) × Lacks (is_sign 35) p.0)
    → Lacks is_no_fragment_byte s → Lacks is_no_name_byte (page_part o s)
page_lacks s None h l = both_lack is_no_fragment_byte (is_sign 35) s l h
page_lacks s (Some p) h l = both_lack is_no_fragment_byte (is_sign 35) p.0
    (lacks_left is_no_fragment_byte p.0 (35 ∷ p.1) (subst (Lacks is_no_fragment_byte) h.0 l)) h.1

fragment_tidy : (s : List ℕ) (o : Option (List ℕ × List ℕ)) → MatchOption o (Lacks (is_sign 35) s) (λ p. (s ≡ p.0 ++ 35 ∷ p.1) × Lacks (is_sign 35) p.0)
    → Lacks is_no_fragment_byte s → IfSome (fragment_part o) IsTidyFragment
fragment_tidy s None h l = tt
fragment_tidy s (Some p) h l =
    let rest = lacks_right is_no_fragment_byte p.0 (35 ∷ p.1) (subst (Lacks is_no_fragment_byte) h.0 l) in
    (any_from_lacks is_no_fragment_byte (trimmed p.1) (lacks_trimmed is_no_fragment_byte p.1 rest.1), trimmed-trimmed p.1)

plain_whole : (s : List ℕ) → Lacks is_no_fragment_byte s → IsPlain (whole_in s)
unfolding whole_in
plain_whole s l =
    let page = page_part (split_once 35 s) s in
    record {
      bytes = lacks_trimmed is_no_name_byte (squeezed page) (lacks_squeezed is_no_name_byte page (page_lacks s (split_once 35 s) (split_view 35 s) l));
      single = single_trimmed (squeezed page) (single_squeezed page);
      ends = trimmed-trimmed (squeezed page);
    }

plain_rest : (w front rest : List ℕ) → w ≡ front ++ 58 ∷ rest → IsPlain w → IsPlain (trimmed rest)
plain_rest w front rest e plain =
    let l = lacks_right is_no_name_byte front (58 ∷ rest) (subst (Lacks is_no_name_byte) e plain.bytes) in
    let s = single_right front (58 ∷ rest) (subst IsSingle e plain.single) in
    record { bytes = lacks_trimmed is_no_name_byte rest l.1; single = single_trimmed rest s.1; ends = trimmed-trimmed rest }

plain_name_step : (w rest : List ℕ) (o : Option Ns) → IsPlain w → IsPlain (trimmed rest) → IsPlain (part_or (option_map (λ ns. (ns, trimmed rest)) o) w).1
plain_name_step w rest None whole part = whole
plain_name_step w rest (Some ns) whole part = part

plain_name : (w : List ℕ) (o : Option (List ℕ × List ℕ)) → MatchOption o (Lacks (is_sign 58) w) (λ p. (w ≡ p.0 ++ 58 ∷ p.1) × Lacks (is_sign 58) p.0)
    → IsPlain w → IsPlain (part_or (named_part o) w).1
plain_name w None h plain = plain
plain_name w (Some p) h plain = plain_name_step w p.1 (namespace_named (trimmed p.0)) plain (plain_rest w p.0 p.1 h.0 plain)

main_step : (w rest : List ℕ) (o : Option Ns) → MatchOption o (Unit {0}) IsNotMain → (part_or (option_map (λ ns. (ns, trimmed rest)) o) w).0 ≡ Main
    → (option_map {U = Ns × List ℕ} (λ ns. (ns, trimmed rest)) o ≡ None) × ((part_or (option_map (λ ns. (ns, trimmed rest)) o) w).1 ≡ w)
main_step w rest None h e = (refl, refl)
main_step w rest (Some ns) h e = absurd (subst IsNotMain e h)

main_name : (w : List ℕ) (o : Option (List ℕ × List ℕ)) → (part_or (named_part o) w).0 ≡ Main → (named_part o ≡ None) × ((part_or (named_part o) w).1 ≡ w)
main_name w None e = (refl, refl)
main_name w (Some p) e = main_step w p.1 (namespace_named (trimmed p.0)) (named_not_main (trimmed p.0)) e

or_not : (s t : Bool) → (s || not t) ≡ true → s ≡ false → t ≡ false
or_not true t e f = absurd (let z : true ≡ false = f in cc)
or_not false true e f = absurd (let z : false ≡ true = e in cc)
or_not false false e f = refl

name_byte_upper : (b : ℕ) → is_no_name_byte b ≡ false → is_no_name_byte (to_ascii_uppercase b) ≡ false
unfolding is_forbidden
name_byte_upper b e = elim (cases_lt b 128) [
  | inl small ↦ or_not (is_no_name_byte b) (is_no_name_byte (to_ascii_uppercase b))
      (below_by_test (λ c. is_no_name_byte c || not (is_no_name_byte (to_ascii_uppercase c))) 128 refl b small) e
  | inr wide ↦ ap is_no_name_byte (upper_wide b wide) ∙ e
]

pub space_allowed : is_forbidden 32 ≡ false
unfolding is_forbidden
space_allowed = refl

tidy_in : (text : List ℕ) → Lacks is_forbidden text → is_good (title_in text) ≡ true → IsTidy (title_in text)
unfolding title_in cut_namespace
tidy_in text allowed good =
    let s = spaced text in
    let l = both_lack is_forbidden (is_sign 95) s (lacks_replaced is_forbidden 95 32 space_allowed text allowed) (lacks_replaced_byte 95 32 refl text) in
    let w = whole_in s in
    let plain = plain_whole s l in
    let name = (cut_namespace w).1 in
    let is = plain_name w (split_once 58 w) (split_view 58 w) plain in
    record {
      bytes = any_from_lacks is_no_name_byte (raised name) (lacks_raised is_no_name_byte name_byte_upper name is.bytes);
      single = squeezed_single (raised name) (single_raised name is.single);
      ends = trimmed-raised name is.ends;
      first = raised-raised name;
      main = λ e. let m = main_name w (split_once 58 w) e in
          ap (λ x. named_part (split_once 58 (raised x))) m.1 ∙ named_part-raised w (begins_same w plain.ends) ∙ m.0;
      fragment = fragment_tidy s (split_once 35 s) (split_view 35 s) l;
      good = good;
    }

pub both_true : (s t : Bool) → (s && t) ≡ true → (s ≡ true) × (t ≡ true)
both_true true t e = (refl, e)
both_true false t e = absurd (let z : false ≡ true = e in cc)

turned_true : (t : Bool) → not t ≡ true → t ≡ false
turned_true true e = absurd (let z : false ≡ true = e in cc)
turned_true false e = refl

pub read_tidy : (text : List ℕ) (t : Title) → read_text text ≡ Some t → IsTidy t
unfolding read_text is_allowed
read_tidy text t e =
    let found = cond_some (is_allowed text && is_good (title_in text)) (title_in text) t e in
    let both = both_true (is_allowed text) (is_good (title_in text)) found.0 in
    subst IsTidy found.1 (tidy_in text (lacks_from_any is_forbidden text (turned_true (list_any is_forbidden text) both.0)) both.1)

-- ---- what is tidy is read

-- the full name is read as the namespace and the name
pub record IsWhole (ns : Ns) (name full : List ℕ) : Type 0 where
  pub bytes : Lacks is_no_name_byte full
  pub single : IsSingle full
  pub ends : trimmed full ≡ full
  pub cut : cut_namespace full ≡ (ns, name)

whole_main : (name : List ℕ) → Lacks is_no_name_byte name → IsSingle name → trimmed name ≡ name
    → named_part (split_once 58 name) ≡ None → IsWhole Main name (prefix_of Main ++ name)
unfolding cut_namespace prefix_of
whole_main name bytes single ends none = record { bytes = bytes; single = single; ends = ends; cut = ap (λ o. part_or o name) none }

begins_colon : (xs ys : List ℕ) → begins_with_space (xs ++ 58 ∷ []) ≡ false → begins_with_space (xs ++ 58 ∷ ys) ≡ false
begins_colon [] ys e = refl
begins_colon (x ∷ xs) ys e = e

single_colon : (xs ys : List ℕ) → IsSingle (xs ++ 58 ∷ []) → IsSingle ys → IsSingle (xs ++ 58 ∷ ys)
single_colon [] ys s t = ((λ e. absurd (omega (arith, e))), t)
single_colon (x ∷ xs) ys s t = ((λ e. begins_colon xs ys (s.0 e)), single_colon xs ys s.1 t)

whole_prefixed : (ns : Ns) (name : List ℕ) → IsPrefixed ns → Lacks is_no_name_byte name → IsSingle name → trimmed name ≡ name
    → 0 < length name → IsWhole ns name (prefix_of ns ++ name)
unfolding cut_namespace
whole_prefixed ns name p bytes single ends some =
    let called = name_of ns in
    let full : prefix_of ns ++ name ≡ called ++ 58 ∷ name = ap (λ x. x ++ name) p.colon ∙ append_assoc called (58 ∷ []) name in
    let prefix_single : IsSingle (called ++ 58 ∷ []) = subst IsSingle (p.single ∙ p.colon) (single_squeezed (prefix_of ns)) in
    let starts = begins_colon called name (ap begins_with_space (sym p.colon) ∙ p.starts) in
    let parts = ap (split_once 58) full ∙ split_between 58 called name (lacks_from_any (is_sign 58) called p.no_colon) in
    record {
      bytes = lacks_append is_no_name_byte (prefix_of ns) name (lacks_from_any is_no_name_byte (prefix_of ns) p.bytes) bytes;
      single = subst IsSingle (sym full) (single_colon called name prefix_single single);
      ends = trimmed_same (prefix_of ns ++ name) (ap begins_with_space full ∙ starts) (trimmed_end-append (prefix_of ns) name some (ends_same name ends));
      cut = ap (λ o. part_or (named_part o) (prefix_of ns ++ name)) parts
          ∙ ap (λ o. part_or (option_map (λ n. (n, trimmed name)) o) (prefix_of ns ++ name)) p.named ∙ ap (λ x. (ns, x)) ends;
    }

-- a title in a namespace has a name
named_some : (n m : ℕ) (u : Bool) → (nat_lt 0 n || (nat_eq m 0 && u)) ≡ true → 0 < m → 0 < n
named_some n m u e some = grind (arith, nat_tests)

good_named : (t : Title) → is_good t ≡ true → is_named t ≡ true
unfolding is_good
good_named t e = (both_true _ _ (both_true _ _ (both_true _ _ (both_true _ _ (both_true _ _ e).0).0).0).0).0

pub named_name : (t : Title) → IsPrefixed t.ns → IsTidy t → 0 < length t.name
unfolding full_name_of
named_name t prefixed tidy =
    let long : 0 < length (prefix_of t.ns ++ t.name) = rw prefixed.colon (simp (length-append, length-append) (omega arith)) in
    named_some (length t.name) (length (prefix_of t.ns ++ t.name)) (is_some_text t.fragment) (good_named t tidy.good) long

pub whole : (t : Title) → IsTidy t → IsWhole t.ns t.name (full_name_of t)
unfolding full_name_of
whole t tidy =
    let bytes = lacks_from_any is_no_name_byte t.name tidy.bytes in
    let single = subst IsSingle tidy.single (single_squeezed t.name) in
    elim (named_or_main t.ns) [
      | inl main ↦
          let P : Ns → Type 0 = λ ns. IsWhole ns t.name (prefix_of ns ++ t.name) in
          subst P (sym main) (whole_main t.name bytes single tidy.ends (tidy.main main))
      | inr prefixed ↦
          whole_prefixed t.ns t.name prefixed bytes single tidy.ends (named_name t prefixed tidy)
    ]

-- the cut of a full name and a fragment
suffix_cut : (full : List ℕ) (fragment : Option (List ℕ)) → Lacks (is_sign 35) full
    → (split_once 35 (full ++ fragment_suffix fragment) ≡ option_map (λ f. (full, f)) fragment)
    × (page_part (option_map (λ f. (full, f)) fragment) (full ++ fragment_suffix fragment) ≡ full)
suffix_cut full None l = (ap (split_once 35) (append-nil full) ∙ split_lacking 35 full l, append-nil full)
suffix_cut full (Some f) l = (split_between 35 full f l, refl)

fragment_back : (full : List ℕ) (fragment : Option (List ℕ)) → IfSome fragment IsTidyFragment → fragment_part (option_map (λ f. (full, f)) fragment) ≡ fragment
fragment_back full None tidy = refl
fragment_back full (Some f) tidy = ap Some tidy.1

title_written : (t : Title) → IsTidy t → spaced_title (text_of t) ≡ t
unfolding whole_in
title_written t tidy =
    let full = full_name_of t in
    let w = whole t tidy in
    let cut = suffix_cut full t.fragment (second_lacks is_no_fragment_byte (is_sign 35) full w.bytes) in
    let page = ap (λ o. page_part o (text_of t)) cut.0 ∙ cut.1 in
    let is_whole : whole_in (text_of t) ≡ full = ap (λ x. trimmed (squeezed x)) page ∙ ap trimmed (squeezed_single full w.single) ∙ w.ends in
    let fragment = ap fragment_part cut.0 ∙ fragment_back full t.fragment tidy.fragment in
    ap (λ x. title_from (cut_namespace x) (fragment_part (split_once 35 (text_of t)))) is_whole
    ∙ ap (λ p. title_from p (fragment_part (split_once 35 (text_of t)))) w.cut
    ∙ ap (λ f. title_from (t.ns, t.name) f) fragment
    ∙ ap (λ n. record t { name = n }) tidy.first

-- any text that is, with spaces for `_`, the full name and the fragment
pub read_written : (text : List ℕ) (t : Title) → IsTidy t → spaced text ≡ text_of t → Lacks is_forbidden text → read_text text ≡ Some t
unfolding read_text title_in is_allowed
read_written text t tidy is allowed =
    let same : title_in text ≡ t = ap spaced_title is ∙ title_written t tidy in
    let passes : (is_allowed text && is_good (title_in text)) ≡ true =
    ap (λ x. not x && is_good (title_in text)) (any_from_lacks is_forbidden text allowed) ∙ ap is_good same ∙ tidy.good in
    cond-true (is_allowed text && is_good (title_in text)) (Some (title_in text)) None passes ∙ ap Some same

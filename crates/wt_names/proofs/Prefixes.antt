-- The cut at a sign, and the names of the namespaces before a colon.
use Rattle.std.proofs.Common.{◌≡◌, ◌≢◌, ℕ, Bool, true, false, cond, ◌||◌, ◌&&◌, nat_eq, Option, Some, None, option_map, MatchOption, List, [], ◌∷◌, ◌++◌, length, map, find, refl, sym, ap, ◌∙◌, inl, inr, ◌⊎◌, arith}
use Rattle.std.specs.List.{list_any, AllByRecursion}
use Rattle.std.specs.Char.{to_ascii_uppercase, to_ascii_lowercase}
use Rattle.std.specs.Str.{bytes_eq, is_utf8, chars}
use Rattle.std.proofs.Math.Utf8.{encode}
use Rattle.std.proofs.lemmas.Bool.{eq-eqb, eqb-true}
use Rattle.std.proofs.lemmas.Bool.Decides.{eqb_tells, nat_tests}
use Rattle.wt_names.specs.declared.namespace.Ns.{Ns}
use Rattle.wt_names.specs.declared.namespace.Ns.TheVariants.{Main, File}
use Rattle.wt_names.specs.Namespace.{name_of, image, is_called, named_spaces, namespace_named, prefix_of}
use Rattle.wt_names.specs.Reading.{split_once, squeezed, begins_with_space, trimmed_end, trimmed, raised, named_part}
use Rattle.wt_names.specs.Good.{is_forbidden}
use Rattle.wt_names.specs.Tidy.{is_no_name_byte}
use Rattle.wt_names.proofs.Cuts.{differs, trimmed_start-other}
use Rattle.wt_names.proofs.Lacks.{Lacks}
use Rattle.wt_names.proofs.Tidy.{upper_space}

-- ---- the cut at a sign

abbrev pub is_sign : ℕ → ℕ → Bool
is_sign sign b = nat_eq b sign

view_step : (sign b : ℕ) (bs : List ℕ) (t : Bool) → nat_eq b sign ≡ t → (o : Option (List ℕ × List ℕ))
    → MatchOption o (Lacks (is_sign sign) bs) (λ p. (bs ≡ p.0 ++ sign ∷ p.1) × Lacks (is_sign sign) p.0)
    → MatchOption (cond {A = Option (List ℕ × List ℕ)} t (Some ([], bs)) (option_map (λ p. (b ∷ p.0, p.1)) o))
    (Lacks (is_sign sign) (b ∷ bs)) (λ p. (b ∷ bs ≡ p.0 ++ sign ∷ p.1) × Lacks (is_sign sign) p.0)
view_step sign b bs true e o h = (ap (λ x. x ∷ bs) (eqb-true b sign e), tt)
view_step sign b bs false e None h = (e, h)
view_step sign b bs false e (Some p) h = (ap (λ x. b ∷ x) h.0, (e, h.1))

-- the parts round the first sign, or that there is none
pub split_view : (sign : ℕ) (bs : List ℕ) → MatchOption (split_once sign bs) (Lacks (is_sign sign) bs)
    (λ p. (bs ≡ p.0 ++ sign ∷ p.1) × Lacks (is_sign sign) p.0)
split_view sign [] = tt
split_view sign (b ∷ bs) = view_step sign b bs (nat_eq b sign) refl (split_once sign bs) (split_view sign bs)

pub split_lacking : (sign : ℕ) (bs : List ℕ) → Lacks (is_sign sign) bs → split_once sign bs ≡ None
split_lacking sign [] l = refl
split_lacking sign (b ∷ bs) l = ap (λ t. cond {A = Option (List ℕ × List ℕ)} t (Some ([], bs))
    (option_map (λ p. (b ∷ p.0, p.1)) (split_once sign bs))) l.0 ∙ ap (option_map (λ p. (b ∷ p.0, p.1))) (split_lacking sign bs l.1)

pub split_between : (sign : ℕ) (xs ys : List ℕ) → Lacks (is_sign sign) xs → split_once sign (xs ++ sign ∷ ys) ≡ Some (xs, ys)
split_between sign [] ys l = ap (λ t. cond {A = Option (List ℕ × List ℕ)} t (Some ([], ys))
    (option_map (λ p. (sign ∷ p.0, p.1)) (split_once sign ys))) (eq-eqb sign sign refl)
split_between sign (x ∷ xs) ys l =
    ap (λ t. cond {A = Option (List ℕ × List ℕ)} t (Some ([], xs ++ sign ∷ ys)) (option_map (λ p. (x ∷ p.0, p.1)) (split_once sign (xs ++ sign ∷ ys)))) l.0
    ∙ ap (option_map (λ p. (x ∷ p.0, p.1))) (split_between sign xs ys l.1)

-- ---- which namespace a text names

lower_upper : (b : ℕ) → to_ascii_lowercase (to_ascii_uppercase b) ≡ to_ascii_lowercase b
lower_upper b = grind (arith, nat_tests)

is_called-upper : (b : ℕ) (bs : List ℕ) (ns : Ns) → is_called (to_ascii_uppercase b ∷ bs) ns ≡ is_called (b ∷ bs) ns
unfolding is_called
is_called-upper b bs File = ap (λ c. bytes_eq (c ∷ map to_ascii_lowercase bs) (map to_ascii_lowercase (name_of File))
    || bytes_eq (c ∷ map to_ascii_lowercase bs) (map to_ascii_lowercase image)) (lower_upper b)
is_called-upper b bs ns = ap (λ c. bytes_eq (c ∷ map to_ascii_lowercase bs) (map to_ascii_lowercase (name_of ns))) (lower_upper b)

find_same : (p q : Ns → Bool) → ((n : Ns) → p n ≡ q n) → (ns : List Ns) → find p ns ≡ find q ns
find_same p q same [] = refl
find_same p q same (n ∷ ns) = ap (λ t. cond t (Some n) (find p ns)) (same n) ∙ ap (λ o. cond (q n) (Some n) o) (find_same p q same ns)

namespace_named-upper : (b : ℕ) (bs : List ℕ) → namespace_named (to_ascii_uppercase b ∷ bs) ≡ namespace_named (b ∷ bs)
unfolding namespace_named
namespace_named-upper b bs = find_same _ _ (is_called-upper b bs) named_spaces

abbrev pub IsNotMain : Ns → Type 0
IsNotMain Main = ⊥
IsNotMain ns = Unit {0}

found_step : (t : Bool) (n : Ns) (o : Option Ns) → IsNotMain n → MatchOption o (Unit {0}) IsNotMain → MatchOption (cond t (Some n) o) (Unit {0}) IsNotMain
found_step true n o is on = is
found_step false n o is on = on

found_not_main : (p : Ns → Bool) (ns : List Ns) → AllByRecursion IsNotMain ns → MatchOption (find p ns) (Unit {0}) IsNotMain
found_not_main p [] all = tt
found_not_main p (n ∷ ns) all = found_step (p n) n (find p ns) all.0 (found_not_main p ns all.1)

pub named_not_main : (bs : List ℕ) → MatchOption (namespace_named bs) (Unit {0}) IsNotMain
unfolding namespace_named
named_not_main bs = found_not_main (is_called bs) named_spaces (tt, (tt, (tt, (tt, (tt, (tt, (tt, (tt, (tt, (tt, (tt, (tt, (tt, tt)))))))))))))

-- ---- the first letter raised names the same namespace

trimmed-other : (b : ℕ) (bs : List ℕ) → b ≢ 32 → trimmed (b ∷ bs) ≡ b ∷ trimmed_end bs
trimmed-other b bs other =
    ap trimmed_end (trimmed_start-other b bs other) ∙ ap (λ t. cond (t && nat_eq (length (trimmed_end bs)) 0) [] (b ∷ trimmed_end bs)) (differs b 32 other)

upper_other : (b : ℕ) → b ≢ 32 → to_ascii_uppercase b ≢ 32
upper_other b other = λ e. other (eqb-true b 32 (sym (upper_space b) ∙ eq-eqb (to_ascii_uppercase b) 32 e))

upper_colon : (b : ℕ) → nat_eq (to_ascii_uppercase b) 58 ≡ nat_eq b 58
upper_colon b = grind (arith, nat_tests)

upper_at_colon : (b : ℕ) → b ≡ 58 → to_ascii_uppercase b ≡ b
upper_at_colon b e = grind (arith, nat_tests)

part_upper : (b : ℕ) (o : Option (List ℕ × List ℕ)) → b ≢ 32
    → named_part (option_map (λ p. (to_ascii_uppercase b ∷ p.0, p.1)) o) ≡ named_part (option_map (λ p. (b ∷ p.0, p.1)) o)
part_upper b None other = refl
part_upper b (Some p) other =
    ap (option_map (λ ns. (ns, trimmed p.1))) (ap namespace_named (trimmed-other (to_ascii_uppercase b) p.0 (upper_other b other))
    ∙ namespace_named-upper b (trimmed_end p.0) ∙ ap namespace_named (sym (trimmed-other b p.0 other)))

pub named_part-raised : (bs : List ℕ) → begins_with_space bs ≡ false → named_part (split_once 58 (raised bs)) ≡ named_part (split_once 58 bs)
named_part-raised [] start = refl
named_part-raised (b ∷ bs) start = elim (eqb_tells b 58) [
  | inl is ↦ ap (λ c. named_part (split_once 58 (c ∷ bs))) (upper_at_colon b is.1)
  | inr other ↦
      ap (λ t. named_part (cond {A = Option (List ℕ × List ℕ)} t (Some ([], bs))
      (option_map (λ p. (to_ascii_uppercase b ∷ p.0, p.1)) (split_once 58 bs)))) (upper_colon b ∙ other.0)
      ∙ part_upper b (split_once 58 bs) (λ e. let u : true ≡ false = sym (eq-eqb b 32 e) ∙ start in cc)
      ∙ sym (ap (λ t. named_part (cond {A = Option (List ℕ × List ℕ)} t (Some ([], bs)) (option_map (λ p. (b ∷ p.0, p.1)) (split_once 58 bs)))) other.0)
]

-- ---- the names before a colon

pub record IsPrefixed (ns : Ns) : Type 0 where
  pub no_colon : list_any (is_sign 58) (name_of ns) ≡ false
  pub bytes : list_any is_no_name_byte (prefix_of ns) ≡ false
  pub single : squeezed (prefix_of ns) ≡ prefix_of ns
  pub starts : begins_with_space (prefix_of ns) ≡ false
  pub utf8 : is_utf8 (prefix_of ns) ≡ true
  pub colon : prefix_of ns ≡ name_of ns ++ 58 ∷ []
  pub named : namespace_named (trimmed (name_of ns)) ≡ Some ns

abbrev pub IfNamed : Ns → Type 0
IfNamed Main = prefix_of Main ≡ []
IfNamed ns = IsPrefixed ns

pub prefixes : (ns : Ns) → IfNamed ns
unfolding name_of prefix_of namespace_named is_called image is_forbidden is_utf8 chars encode
prefixes Main = refl
prefixes ns = record { no_colon = refl; bytes = refl; single = refl; starts = refl; utf8 = refl; colon = refl; named = refl }

pub named_or_main : (ns : Ns) → (ns ≡ Main) ⊎ IsPrefixed ns
named_or_main Main = inl refl
named_or_main ns = inr (prefixes ns)

pub prefix_main : prefix_of Main ≡ []
prefix_main = prefixes Main

-- Behind the name of a start tag: no attribute came yet.
use Rattle.std.proofs.Common.{◌≡◌, ℕ, false, Result, List, [], ◌∷◌, refl, sym, subst, map}
use Rattle.wt_html_grammar.specs.declared.why.HtmlWhy.{HtmlWhy}
use Rattle.wt_html_grammar.specs.declared.event.Event.{Event}
use Rattle.wt_html_grammar.specs.Signs.{is_name_byte}
use Rattle.wt_html_grammar.specs.Markup.{Pair}
use Rattle.wt_html_grammar.specs.Machine.{State, naming, Tag, at_open, step}
use Rattle.wt_html_grammar.specs.Events.{out, out_open}
use Rattle.wt_html_grammar.proofs.Steps.{if_false}
use Rattle.wt_html_elements.specs.Held.{is_some_attribute}
use Rattle.wt_html_elements.specs.View.{Takes}

no_names : (ps : List Pair) → is_some_attribute ps ≡ false → map (λ p. p.0) ps ≡ []
no_names [] e = refl
no_names (p ∷ ps) e = cc

abbrev tag_with : List (List ℕ) → List ℕ → List (List ℕ) → Tag
tag_with ns n seen = record { outer = ns; name = n; seen = seen }

pub takes_naming : (ns : List (List ℕ)) (n : List ℕ) (ps : List Pair) (b : ℕ) (r : Result Event HtmlWhy) (f : Event → State) → is_some_attribute ps ≡ false
    → is_name_byte b ≡ false
    → Takes (at_open (tag_with ns n (map (λ p. p.0) ps)) b) (out_open (tag_with ns n (map (λ p. p.0) ps)) b) r f
    → Takes (step (naming ns n) b) (out (naming ns n) b) r f
takes_naming ns n ps b r f e d h =
    let P : List (List ℕ) → Type 0 = λ seen. Takes (at_open (tag_with ns n seen) b) (out_open (tag_with ns n seen) b) r f in
    let Q : Result State HtmlWhy → Type 0 = λ o. Takes o (out (naming ns n) b) r f in
    let R : Event → Type 0 = λ v. Takes (at_open (tag_with ns n []) b) v r f in
    subst Q (sym (if_false (is_name_byte b) _ _ d)) (subst R (sym (if_false (is_name_byte b) _ _ d)) (subst P (no_names ps e) h))

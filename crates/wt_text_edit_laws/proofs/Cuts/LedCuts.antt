-- A page cut before a block that begins behind lines, comments and tags, or behind the sign of a table's end or a rule or the end of a call: what begins
-- before it ends there.
use Rattle.std.proofs.Common.{◌≡◌, inl, inr, ℕ, ◌<◌, ◌==◌, true, false, List, [], ◌∷◌, ◌++◌, length, refl, sym, ap, ◌∙◌, subst}
use Rattle.std.specs.Prelude.{not}
use Rattle.std.proofs.lemmas.Bool.{eqb-true}
use Rattle.wt_span.specs.declared.form.Mode.TheVariants.{Page}
use Rattle.wt_span.specs.Items.{Item, sources}
use Rattle.wt_expand.specs.PageItems.{page_items}
use Rattle.wt_part_laws.specs.Lexer.{lexer}
use Rattle.wt_part_laws.specs.Scans.{Settles}
use Rattle.wt_text_edit_laws.specs.BlockSpots.{BlockSpot}
use Rattle.wt_text_edit_laws.specs.PageCuts.{EndsThere}
use Rattle.wt_text_edit_laws.specs.ReadContents.{BeginsUnclosed}
use Rattle.wt_text_edit_laws.specs.SignParts.{AreSigned, IsOnSign, IsLedTo}
use Rattle.wt_text_edit_laws.specs.TextBetween.{EndsBy, is_end, AreEnded, HasEndsBefore}
use Rattle.wt_text_edit_laws.specs.TextBlocks.{TextBlock, a_paragraph, a_heading, source_of}
use Rattle.wt_text_edit_laws.specs.TypedHeadings.{closing}
use Rattle.wt_text_edit_laws.proofs.Between.LineWords.{either}
use Rattle.wt_text_edit_laws.proofs.Blocks.SignBraces.{heading_unclosed, signed_by}
use Rattle.wt_text_edit_laws.proofs.Cuts.ItemCuts.{is_plain, page_cut, page_from}
use Rattle.wt_text_edit_laws.proofs.Cuts.SettledEnds.{settled_ends}
use Rattle.wt_text_edit_laws.proofs.Cuts.Uncrossed.{AreCut, part_settles}

end_plain : (b : ℕ) → is_end b ≡ true → is_plain b ≡ true
end_plain b e = elim (either (b == 10) (b == 62) e) [
  | inl f ↦ ap is_plain (eqb-true b 10 f)
  | inr f ↦ ap is_plain (eqb-true b 62 f)
]

pub ends_plain : (bs : List ℕ) → AreEnded bs → EndsBy is_plain bs
ends_plain [] e = tt
ends_plain (b ∷ []) e = end_plain b e
ends_plain (b ∷ c ∷ bs) e = ends_plain (c ∷ bs) e

there_unclosed : (rest : List ℕ) → EndsThere rest → BeginsUnclosed rest
there_unclosed [] e = tt
there_unclosed (b ∷ rest) e = subst (λ (c : ℕ). BeginsUnclosed (c ∷ rest)) (sym e) refl

sign_unclosed : (k : TextBlock) (q rest : List ℕ) → IsOnSign k q → EndsThere rest → BeginsUnclosed (source_of k q ++ rest)
sign_unclosed a_paragraph [] rest h e = there_unclosed rest e
sign_unclosed a_paragraph (b ∷ q) rest h e = h
sign_unclosed (a_heading s) q rest h e = heading_unclosed s (q ++ closing s) rest h

sign_cut : (bs rest : List ℕ) → BeginsUnclosed rest → ((c : ℕ) → (125 == c) ≡ false → (45 == c) ≡ false → EndsBy (λ b. not (b == c)) bs) → AreCut bs rest
sign_cut bs [] u f = (inl (f 123 refl refl), inr tt, inl (f 91 refl refl), inl (f 93 refl refl))
sign_cut bs (b ∷ rest) u f = (inl (f 123 refl refl), inr u, inl (f 91 refl refl), inl (f 93 refl refl))

-- no run of braces and no two brackets go over the end of the sign
pub led_cut : (s : BlockSpot) (rest : List ℕ) → AreSigned s.before → IsOnSign s.block s.text → EndsThere rest → AreCut s.before (source_of s.block s.text ++ rest)
led_cut s rest l h there =
    sign_cut s.before (source_of s.block s.text ++ rest) (sign_unclosed s.block s.text rest h there)
    (λ c f g. signed_by (λ b. not (b == c)) (ap not f) (ap not g) s.before l)

-- so its lexemes are the same by themselves
pub led_settles : (s : BlockSpot) (rest : List ℕ) (before others : List Item) → IsLedTo s.before s.block s.text → EndsThere rest → sources before ≡ s.before
    → page_items (s.before ++ (source_of s.block s.text ++ rest)) ≡ before ++ others → Settles (lexer Page) (source_of s.block s.text ++ rest) false 0 s.before
led_settles s rest before others (inl l) there is e =
    let c = page_cut s.before (source_of s.block s.text ++ rest) before others e is in c.settles (inl (ends_plain s.before l))
led_settles s rest before others (inr l) there is e =
    let line : List ℕ = source_of s.block s.text ++ rest in
    let c = page_cut s.before line before others e is in
    let own : page_items s.before ≡ before = page_from s.before ∙ c.front in
    let all : page_items (s.before ++ line) ≡ page_items s.before ++ others = e ∙ ap (λ (xs : List Item). xs ++ others) (sym own) in
    part_settles s.before line others (led_cut s rest l.0 l.1 there) all

pub led_ends : (s : BlockSpot) (rest : List ℕ) (before others : List Item) → IsLedTo s.before s.block s.text → EndsThere rest → 0 < length (source_of s.block s.text ++ rest)
    → sources before ≡ s.before → page_items (s.before ++ (source_of s.block s.text ++ rest)) ≡ before ++ others → HasEndsBefore (source_of s.block s.text ++ rest) s.before
led_ends s rest before others l there some is e = settled_ends s.before (source_of s.block s.text ++ rest) some (led_settles s rest before others l there is e)

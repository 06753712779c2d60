-- Worked case: the paragraph `a'{{t}} b`, which nobody typed so, in pieces; `zw{{t}}v` may be written in its place, and so may any texts beside the
-- call.
use Rattle.std.proofs.Common.{◌≡◌, inl, inr, ℕ, List, [], ◌∷◌, refl, sym, subst}
use Rattle.std.specs.Prelude.{codes}
use Rattle.wt_span.specs.Comments.{comment_len, comment_line_len}
use Rattle.wt_span.specs.Entities.{entity_at, named_entity, decimal_entity, hex_entity, entity_names}
use Rattle.wt_span.specs.Tags.{raw_len, opening_tag, tag_after, closing_tag, with_inside, include_at}
use Rattle.wt_span.specs.Lexemes.{words, closed, sign_word, form_at}
use Rattle.wt_span.specs.Origins.{OuterCall}
use Rattle.wt_guards.specs.Content.{ContentSign}
use Rattle.wt_guards.specs.Guards.{spelled}
use Rattle.wt_expand.specs.PageItems.{page_items}
use Rattle.wt_expand.specs.PageCalls.{expanded_page}
use Rattle.wt_part_laws.specs.MovedCalls.{AreMoved}
use Rattle.wt_text_edit_laws.specs.NoCalls.{AreUnbraced}
use Rattle.wt_text_edit_laws.specs.TextBlocks.{a_paragraph}
use Rattle.wt_beside_laws.specs.Called.{HasUncalled}
use Rattle.wt_beside_laws.specs.Lines.{AreCharacters}
use Rattle.wt_beside_laws.specs.Stood.{things}
use Rattle.wt_beside_laws.proofs.Groups.Cases.{a_word, call, in_paragraph, gives_b}
use Rattle.wt_called_edit_laws.specs.CallingBlocks.{IsNewContentIn}
use Rattle.wt_called_edit_laws.specs.InPieces.{AreInPieces, AreReadApart, pieces_source}
use Rattle.wt_called_edit_laws.specs.PageThings.{ArePageThings, ThingsStay}
use Rattle.wt_called_edit_laws.specs.WrittenAnew.{StayButForOthers}
use Rattle.wt_called_edit_laws.proofs.Written.Cases.{call_read, call_part, call_sealed, call_shut, call_utf8, other, now}
use Rattle.wt_called_edit_laws.proofs.Written.FromPage.{page_takes}
use Rattle.wt_called_edit_laws.proofs.Written.InPieces.{pieces_anew}
use Rattle.wt_called_edit_laws.proofs.Written.ReadApart.{apart_pieces}
use Rattle.wt_called_edit_laws.proofs.Written.Joined.{calm_written}

abbrev pieces : List (List ℕ)
pieces = codes "a'" ∷ codes "{{t}}" ∷ codes " b" ∷ []

before_calm : AreUnbraced (page_items (codes "a'"))
unfolding page_items words closed form_at comment_len comment_line_len raw_len opening_tag tag_after closing_tag with_inside include_at entity_at named_entity
    decimal_entity hex_entity entity_names sign_word
before_calm = (refl, (refl, tt))

behind_calm : AreUnbraced (page_items (codes " b"))
unfolding page_items words closed form_at comment_len comment_line_len raw_len opening_tag tag_after closing_tag with_inside include_at entity_at named_entity
    decimal_entity hex_entity entity_names sign_word
behind_calm = (refl, (refl, tt))

read_apart : AreReadApart a_word pieces
unfolding page_items words closed form_at comment_len comment_line_len raw_len opening_tag tag_after closing_tag with_inside include_at entity_at named_entity
    decimal_entity hex_entity entity_names sign_word
read_apart = (
  record { own = inl before_calm; ends = refl; begins = refl; read = refl },
  (
    record { own = inr call_part; ends = refl; begins = refl; read = refl },
    (record { own = inl behind_calm; ends = refl; begins = tt; read = refl }, tt),
  ),
)

in_pieces : AreInPieces a_word pieces
in_pieces = apart_pieces a_word pieces read_apart

no_calls : (os : List OuterCall) → AreMoved [] os → os ≡ []
no_calls [] m = refl
no_calls (o ∷ os) m = absurd m

stay : StayButForOthers a_word pieces (codes "{{t}}" ∷ [])
stay =
    let before = calm_written a_word (codes "a'") before_calm in
    let behind = calm_written a_word (codes " b") behind_calm in
    inr (no_calls (expanded_page a_word (codes "a'")).outer before.calls_are, inl (refl, (no_calls (expanded_page a_word (codes " b")).outer behind.calls_are, tt)))

anew_by_hand : IsNewContentIn a_word a_paragraph (pieces_source pieces) (spelled in_paragraph other)
anew_by_hand = pieces_anew a_word pieces in_paragraph other in_pieces now stay

-- ---- whatever is typed beside the call

of_page : ArePageThings a_word (call ∷ [])
of_page = (record { folder = gives_b; read = call_read; part = call_part; sealed = call_sealed; shut = call_shut; utf8 = call_utf8 }, tt, tt)

any_texts : (signs : List ContentSign) → AreCharacters signs → HasUncalled in_paragraph [] signs → things signs ≡ call ∷ []
    → IsNewContentIn a_word a_paragraph (pieces_source pieces) (spelled in_paragraph signs)
any_texts signs v b i =
    page_takes a_word pieces (call ∷ []) in_paragraph signs in_pieces stay of_page refl v b (subst (ThingsStay a_word (call ∷ [])) (sym i) (inl (refl, tt)))

-- A page with other texts in the places of its texts has the form of the page.
use Rattle.std.proofs.Common.{◌≡◌, ℕ, List, refl, ap, sym, ◌∙◌, subst, Bool, true, false, if◌then◌else◌}
use Rattle.html_pieces.specs.declared.bytes.PageForm.{PageForm}
use Rattle.html_pieces.specs.declared.bytes.PageForm.TheVariants.{Html, Xml}
use Rattle.html_pieces.specs.Forms.{root_tag, has_declaration, has_namespace, form_of}
use Rattle.html_pieces.specs.Pieces.{Piece, pieces_of}
use Rattle.html_pieces.specs.Laws.{joined_pieces, HaveOtherTexts, KeepsOrderMark, LeaveTheForm}
use Rattle.html_pieces.proofs.OtherTexts.{other_texts}
use Rattle.html_pieces.proofs.WholePages.{pieces_join_to_page}
use Rattle.html_pieces.proofs.Fronts.{root_in, root_of, root_stays}
use Rattle.html_pieces.proofs.Declarations.{Declares, declares_of, declares_joined, declares_on, declares_back}

same_root : (form : PageForm) (page : List ℕ) (others : List Piece) → HaveOtherTexts (pieces_of form page) others → root_tag (joined_pieces others) ≡ root_tag page
same_root form page others m =
    root_of form (joined_pieces others) ∙ ap root_in (other_texts form page others m) ∙ root_stays (pieces_of form page) others m ∙ sym (root_of form page)

-- a page with a declaration keeps it, and one without gets none
same_cases : (form : PageForm) (page : List ℕ) (others : List Piece) (c d : Bool) → has_declaration (joined_pieces others) ≡ c → has_declaration page ≡ d → HaveOtherTexts (pieces_of form page) others
    → KeepsOrderMark (pieces_of form page) others → c ≡ d
same_cases form page others true true e f m k = refl
same_cases form page others false false e f m k = refl
same_cases form page others false true e f m k = sym e ∙ declares_joined others (declares_on (pieces_of form page) others m k (declares_of form page f))
same_cases form page others true false e f m k =
    let cut = other_texts form page others m in
    let back = declares_back (pieces_of form page) others m k (subst Declares cut (declares_of form (joined_pieces others) e)) in
    sym (declares_joined (pieces_of form page) back) ∙ ap has_declaration (pieces_join_to_page form page) ∙ f

same_declaration : (form : PageForm) (page : List ℕ) (others : List Piece) → HaveOtherTexts (pieces_of form page) others → KeepsOrderMark (pieces_of form page) others
    → has_declaration (joined_pieces others) ≡ has_declaration page
same_declaration form page others m k = same_cases form page others (has_declaration (joined_pieces others)) (has_declaration page) refl refl m k

pub same_form : (page : List ℕ) (others : List Piece) → LeaveTheForm page others → form_of (joined_pieces others) ≡ form_of page
same_form page others k =
    ap (λ c. if c then Xml else if has_namespace (root_tag (joined_pieces others)) then Xml else Html) (same_declaration (form_of page) page others k.texts k.mark)
    ∙ ap (λ tag. if has_declaration page then Xml else if has_namespace tag then Xml else Html) (same_root (form_of page) page others k.texts)

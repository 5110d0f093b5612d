-- How the sections of an image grow.
use Rattle.std.proofs.Common.{◌≡◌, ℕ, zero, suc, ◌+◌, ◌<◌, ◌≤◌, ◌⊎◌, false, cond, List, [], ◌++◌, take, Some, None, Option, sym, refl, ap, ◌∙◌, subst, inl, inr, append-nil, arith}
use Rattle.std.proofs.lemmas.Bool.{cases_eq}
use Rattle.listing.specs.declared.records.Record.{Record}
use Rattle.listing.specs.declared.items.Section.{Section}
use Rattle.listing.specs.declared.items.Section.TheVariants as section
use Rattle.listing.specs.Meaning.{meaning}
use Rattle.listing.specs.Reading.{record_at}
use Rattle.text.specs.declared.places.Place.{Place}
use Rattle.text.specs.declared.places.Mark.{Mark}
use Rattle.text.specs.Layout.{here, size_of, result_of, section_after, grown, moved, after, laid}
use Rattle.text.specs.Image.{record_bytes, same, portion, section_bytes}
use Rattle.text.proofs.Lengths.{place_more, total, portion_total}

-- no section shrinks
pub grows_on : (t : Section) (l : List ℕ) (n m : ℕ) → n ≤ m → total t (laid l n).place ≤ total t (laid l m).place
grows_on t l n zero h = let e : 0 ≡ n = omega arith in subst (λ k. total t (laid l k).place ≤ total t (laid l 0).place) e (omega arith)
grows_on t l n (suc m) h = go (cases_eq (suc m) n) (λ le. grows_on t l n m le)
  where
    go : (suc m ≡ n) ⊎ (suc m ≡ n → ⊥) → (n ≤ m → total t (laid l n).place ≤ total t (laid l m).place) → total t (laid l n).place ≤ total t (laid l (suc m)).place
    go (inl is) back = subst (λ k. total t (laid l k).place ≤ total t (laid l (suc m)).place) is (omega arith)
    go (inr not) back =
        let before : total t (laid l n).place ≤ total t (laid l m).place = back (omega arith) in
        omega (arith, portion_total 0 [] t (laid l m).place (record_at l m), ap (total t) (place_more l m))

module _ (p : Place) (r : Record) where
  here_total : (s : Section) → here (record p { section = s }) ≡ total s p
  here_total section.Text = refl
  here_total section.Data = refl

  -- a record adds its bytes to the section in which it stands
  own : (n w : ℕ) (q s : Section) → total s (grown s p n w q) ≡ here (record p { section = s }) + n
  own n w q section.Text = refl
  own n w q section.Data = refl

  pub grown_by : (t : Section) → p.section ≡ t → total t (moved p r) ≡ here p + size_of (meaning r) p r
  grown_by t e = subst (λ s. total s (moved p r) ≡ here p + size_of (meaning r) p r) e
      (own (size_of (meaning r) p r) (result_of (meaning r) p r) (section_after (meaning r) p.section) p.section)

  -- there is room for a record among all records
  pub room : (l : List ℕ) (i n : ℕ) (t : Section) → p ≡ (laid l i).place → record_at l i ≡ Some r → i < n → p.section ≡ t
      → here p + size_of (meaning r) p r ≤ total t (laid l n).place
  room l i n t at known lt e =
      let next : (laid l (suc i)).place ≡ moved p r = place_more l i ∙ (λ j. after (sym at j) (known j)) in
      omega (arith, grown_by t e, ap (total t) next, grows_on t l (suc i) n (omega arith))

  module _ (base : ℕ) (labels : List (Option Mark)) (old new : List ℕ) where
    same_self : (s : Section) (bs : List ℕ) → cond (same s s) bs [] ≡ bs
    same_self section.Text bs = refl
    same_self section.Data bs = refl

    -- what its own section has after a record was written
    pub filled_own : (t : Section) → p.section ≡ t
        → take (here p + size_of (meaning r) p r) new ≡ take (here p) old ++ record_bytes base labels p r
        → take (total t (moved p r)) new ≡ take (total t p) old ++ portion t base labels p (Some r)
    filled_own t e told =
        let b : portion t base labels p (Some r) ≡ record_bytes base labels p r =
        ap (λ s. cond (same p.section s) (record_bytes base labels p r) []) (sym e) ∙ same_self p.section (record_bytes base labels p r) in
        let h : here p ≡ total t p = here_total p.section ∙ ap (λ s. total s p) e in
        ap (λ k. take k new) (grown_by t e) ∙ told ∙ (λ j. take (h j) old ++ sym b j)

    apart : (n w : ℕ) (q s t : Section) (bs : List ℕ) → same s t ≡ false
        → take (total t (grown s p n w q)) old ≡ take (total t p) old ++ cond (same s t) bs []
    apart n w q section.Text section.Text bs e = cc
    apart n w q section.Text section.Data bs e = sym (append-nil _)
    apart n w q section.Data section.Text bs e = sym (append-nil _)
    apart n w q section.Data section.Data bs e = cc

    -- and what the other section has
    pub filled_other : (s t : Section) → p.section ≡ s → same s t ≡ false → new ≡ old
        → take (total t (moved p r)) new ≡ take (total t p) old ++ portion t base labels p (Some r)
    filled_other s t e not is =
        ap (take (total t (moved p r))) is
        ∙ apart (size_of (meaning r) p r) (result_of (meaning r) p r) (section_after (meaning r) p.section) p.section t (record_bytes base labels p r)
        (ap (λ q. same q t) e ∙ not)

module _ (base : ℕ) (labels : List (Option Mark)) (l : List ℕ) (i : ℕ) (t : Section) where
  -- a section after one record more
  pub one_more : (p q : Place) (r : Record) (old new : List ℕ) → p ≡ (laid l i).place → record_at l i ≡ Some r
      → take (total t p) old ≡ section_bytes t base labels l i
      → take (total t q) new ≡ take (total t p) old ++ portion t base labels p (Some r)
      → take (total t q) new ≡ section_bytes t base labels l (suc i)
  unfolding section_bytes
  one_more p q r old new at known before told = told ∙ (λ j. before j ++ portion t base labels (at j) (sym known j))

  -- and after none
  pub none_more : record_at l i ≡ None → section_bytes t base labels l i ≡ section_bytes t base labels l (suc i)
  unfolding section_bytes
  none_more known =
      sym (ap (λ o. section_bytes t base labels l i ++ portion t base labels (laid l i).place o) known ∙ append-nil (section_bytes t base labels l i))

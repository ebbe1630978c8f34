use Rattle.std.proofs.Common.{◌≡◌, ◌≢◌, ℕ, ◌+◌, ◌<◌, ◌⊎◌, inl, inr, ⊎_elim, true, false, cond, refl, sym, ap, ◌∙◌}
use Rattle.std.proofs.Common.{arith, List, [], length, subst, Option, Some, None, is_some}
use Rattle.std.specs.Ordering.{is_eq}
use Rattle.std.specs.BTreeMap.{BTreeMap, get}
use Rattle.bhs_net.specs.declared.links.Link.{Link}
use Rattle.bhs_net.specs.Links.{End, link_at, near_end, far_end, HasEnd, Joins}
use Rattle.bhs_net.specs.Faults.{IsPortTwice}
use Rattle.bhs_net.specs.Listing.{end_cmp, IsLeast, MapsEnds}
use Rattle.bhs_net.proofs.Ends.{end_cmp-cases, end_cmp-same}
use Rattle.bhs_net.proofs.Places.{below_or_at}

-- the map has the ends of the first links, and no others; no two of these links share an end
pub record KnowsEnds (links : List Link) (seen : ℕ) (far_ends : BTreeMap End End) : Type 0 where
  pub sound : (end other : End) → get end_cmp far_ends end ≡ Some other → (early : ℕ) × (early < seen)
      × Joins (link_at links early) end other
  pub near : (early : ℕ) → early < seen → get end_cmp far_ends (near_end (link_at links early)) ≡ Some
      (far_end (link_at links early))
  pub far : (early : ℕ) → early < seen → get end_cmp far_ends (far_end (link_at links early)) ≡ Some
      (near_end (link_at links early))
  pub no_twice : (early : ℕ) → early < seen → ¬ IsPortTwice links early

pub KnowsEnds-none : (links : List Link) (far_ends : BTreeMap End End) → far_ends.entries ≡ []
    → KnowsEnds links 0 far_ends
KnowsEnds-none links far_ends e = record {
  sound = λ end other h. absurd (let none : get end_cmp far_ends end ≡ None = rw e refl in
      let no : Some other ≡ None = sym h ∙ none in cc);
  near = λ early h. absurd (omega arith);
  far = λ early h. absurd (omega arith);
  no_twice = λ early h. absurd (omega arith);
}

some_from_is_some : {X : Type 0} (o : Option X) → is_some o ≡ true → (x : X) × (o ≡ Some x)
some_from_is_some (Some x) h = (x, refl)
some_from_is_some None h = absurd (let no : false ≡ true = h in cc)

pub none_from_is_some : {X : Type 0} (o : Option X) → is_some o ≡ false → o ≡ None
none_from_is_some (Some x) h = absurd (let no : true ≡ false = h in cc)
none_from_is_some None h = refl

-- Each end of the first links is a key of the map.
has_early : (links : List Link) (seen : ℕ) (far_ends : BTreeMap End End) → KnowsEnds links seen far_ends → (early : ℕ)
    → early < seen → (end : End) → HasEnd (link_at links early) end → (other : End)
    × (get end_cmp far_ends end ≡ Some other)
has_early links seen far_ends known early lt end (inl e) = (
  far_end (link_at links early),
  subst (λ (q : End). get end_cmp far_ends q ≡ Some (far_end (link_at links early))) e
      (known.near early lt),
)
has_early links seen far_ends known early lt end (inr e) = (
  near_end (link_at links early),
  subst (λ (q : End). get end_cmp far_ends q ≡ Some (near_end (link_at links early)))
      e (known.far early lt),
)

HasEnd-from_joins : (link : Link) (end other : End) → Joins link end other → HasEnd link end
HasEnd-from_joins link end other (inl j) = inl j.0
HasEnd-from_joins link end other (inr j) = inr j.0

-- The first link with an end among the map's keys is the first that uses a port twice.
pub IsPortTwice-first : (links : List Link) (seen : ℕ) (far_ends : BTreeMap End End) → KnowsEnds links seen far_ends
    → seen < length links → (is_some (get end_cmp far_ends (near_end (link_at links seen))) ≡ true)
    ⊎ (is_some (get end_cmp far_ends (far_end (link_at links seen))) ≡ true) → IsLeast (IsPortTwice links) seen
IsPortTwice-first links seen far_ends known lt (inl h) =
    let o = some_from_is_some _ h in
    let found = known.sound (near_end (link_at links seen)) o.0 o.1 in
    ((lt, (found.0, found.1, inl (HasEnd-from_joins (link_at links found.0) _ _ found.2))), known.no_twice)
IsPortTwice-first links seen far_ends known lt (inr h) =
    let o = some_from_is_some _ h in
    let found = known.sound (far_end (link_at links seen)) o.0 o.1 in
    ((lt, (found.0, found.1, inr (HasEnd-from_joins (link_at links found.0) _ _ found.2))), known.no_twice)

joined_known : (links : List Link) (seen : ℕ) (far_ends : BTreeMap End End) (end other : End) (place : ℕ)
    → KnowsEnds links seen far_ends → place < seen → Joins (link_at links place) end other
    → get end_cmp far_ends end ≡ Some other
joined_known links seen far_ends end other place known lt (inl j) =
    subst (λ (q : End). get end_cmp far_ends q ≡ Some other) j.0 (known.near place lt ∙ ap Some j.1)
joined_known links seen far_ends end other place known lt (inr j) =
    subst (λ (q : End). get end_cmp far_ends q ≡ Some other) j.0 (known.far place lt ∙ ap Some j.1)

not_had : (links : List Link) (seen : ℕ) (far_ends : BTreeMap End End) (early : ℕ) (end end' : End)
    → KnowsEnds links seen far_ends → early < seen → end ≡ end' → get end_cmp far_ends end' ≡ None
    → HasEnd (link_at links early) end → ⊥
not_had links seen far_ends early end end' known lt e none has =
    let o = has_early links seen far_ends known early lt end has in
    let no : None ≡ Some o.0 = sym none ∙ (ap (λ v. get end_cmp far_ends v) (sym e) ∙ o.1) in cc

-- a link with neither end in the map has no end twice
not_twice : (links : List Link) (seen : ℕ) (far_ends : BTreeMap End End) (near far : End)
    → near_end (link_at links seen) ≡ near → far_end (link_at links seen) ≡ far → KnowsEnds links seen far_ends
    → get end_cmp far_ends near ≡ None → get end_cmp far_ends far ≡ None → ¬ IsPortTwice links seen
not_twice links seen far_ends near far is_near is_far known no_near no_far twice = ⊎_elim
    (not_had links seen far_ends twice.1.0 _ near known twice.1.1 is_near no_near)
    (not_had links seen far_ends twice.1.0 _ far known twice.1.1 is_far no_far)
    twice.1.2

-- the map after two entries are put
module _ (old mid new : BTreeMap End End) (near far : End) (apart : near ≢ far)
    (first : (q : End) → get end_cmp mid q ≡ cond (is_eq (end_cmp near q)) (Some far) (get end_cmp old q))
    (second : (q : End) → get end_cmp new q ≡ cond (is_eq (end_cmp far q)) (Some near) (get end_cmp mid q)) where
  put_far : get end_cmp new far ≡ Some near
  put_far = second far ∙ ap (λ t. cond t (Some near) (get end_cmp mid far)) (end_cmp-same far)

  put_near : get end_cmp new near ≡ Some far
  put_near = ⊎_elim
      (λ e. absurd (apart (sym e.1)))
      (λ ne. second near ∙ (ap (λ t. cond t (Some near) (get end_cmp mid near)) ne
      ∙ (first near ∙ ap (λ t. cond t (Some far) (get end_cmp old near)) (end_cmp-same near))))
      (end_cmp-cases far near)

  put_cases : (q : End) → (far ≡ q) ⊎ ((near ≡ q) ⊎ (get end_cmp new q ≡ get end_cmp old q))
  put_cases q = ⊎_elim
      (λ e. inl e.1)
      (λ ne. ⊎_elim
      (λ e. inr (inl e.1))
      (λ ne'. inr (inr (second q ∙ (ap (λ t. cond t (Some near) (get end_cmp mid q)) ne
      ∙ (first q ∙ ap (λ t. cond t (Some far) (get end_cmp old q)) ne')))))
      (end_cmp-cases near q))
      (end_cmp-cases far q)

  put_other : (q other : End) → get end_cmp old near ≡ None → get end_cmp old far ≡ None
      → get end_cmp old q ≡ Some other → get end_cmp new q ≡ Some other
  put_other q other no_near no_far had = ⊎_elim
      (λ e. absurd (let no : None ≡ Some other = sym no_far ∙ (ap (λ v. get end_cmp old v) e ∙ had) in cc))
      (λ r. ⊎_elim
      (λ e. absurd (let no : None ≡ Some other = sym no_near ∙ (ap (λ v. get end_cmp old v) e ∙ had) in cc))
      (λ same. same ∙ had)
      r)
      (put_cases q)

  put_sound : (q other : End) → get end_cmp new q ≡ Some other → ((far ≡ q) × (near ≡ other))
      ⊎ (((near ≡ q) × (far ≡ other)) ⊎ (get end_cmp old q ≡ Some other))
  put_sound q other h = ⊎_elim
      (λ e. let o : Some near ≡ Some other = sym put_far ∙ (ap (λ v. get end_cmp new v) e ∙ h) in inl (e, cc))
      (λ r. ⊎_elim
      (λ e. let o : Some far ≡ Some other = sym put_near ∙ (ap (λ v. get end_cmp new v) e ∙ h) in inr (inl (e, cc)))
      (λ same. inr (inr (sym same ∙ h)))
      r)
      (put_cases q)

pub KnowsEnds-more : (links : List Link) (seen : ℕ) (old mid new : BTreeMap End End) (near far : End)
    → near_end (link_at links seen) ≡ near → far_end (link_at links seen) ≡ far → near ≢ far → KnowsEnds links seen old
    → get end_cmp old near ≡ None → get end_cmp old far ≡ None
    → ((q : End) → get end_cmp mid q ≡ cond (is_eq (end_cmp near q)) (Some far) (get end_cmp old q))
    → ((q : End) → get end_cmp new q ≡ cond (is_eq (end_cmp far q)) (Some near) (get end_cmp mid q))
    → KnowsEnds links (seen + 1) new
KnowsEnds-more links seen old mid new near far is_near is_far apart known no_near no_far first second = record {
  sound = λ end other h. ⊎_elim
      (λ e. (seen, omega arith, inr (is_far ∙ e.0, is_near ∙ e.1)))
      (λ r. ⊎_elim
      (λ e. (seen, omega arith, inl (is_near ∙ e.0, is_far ∙ e.1)))
      (λ had. let found = known.sound end other had in (found.0, omega arith, found.2))
      r)
      (put_sound old mid new near far apart first second end other h);
  near = λ early h. ⊎_elim
      (λ below. put_other old mid new near far apart first second _ _ no_near no_far (known.near early below))
      (λ at. subst (λ k. get end_cmp new (near_end (link_at links k)) ≡ Some (far_end (link_at links k))) (sym at)
      (ap (λ v. get end_cmp new v) is_near
      ∙ (put_near old mid new near far apart first second ∙ ap Some (sym is_far))))
      (below_or_at early seen h);
  far = λ early h. ⊎_elim
      (λ below. put_other old mid new near far apart first second _ _ no_near no_far (known.far early below))
      (λ at. subst (λ k. get end_cmp new (far_end (link_at links k)) ≡ Some (near_end (link_at links k))) (sym at)
      (ap (λ v. get end_cmp new v) is_far
      ∙ (put_far old mid new near far apart first second ∙ ap Some (sym is_near))))
      (below_or_at early seen h);
  no_twice = λ early h. ⊎_elim
      (λ below. known.no_twice early below)
      (λ at. subst (λ k. ¬ IsPortTwice links k) (sym at)
      (not_twice links seen old near far is_near is_far known no_near no_far))
      (below_or_at early seen h);
}

-- the map leads as the whole list does
pub MapsEnds-from_all : (links : List Link) (seen : ℕ) (far_ends : BTreeMap End End) → KnowsEnds links seen far_ends
    → seen ≡ length links → MapsEnds links far_ends
MapsEnds-from_all links seen far_ends known all = record {
  sound = λ end other h. let found = known.sound end other h in (found.0, omega arith, found.2);
  whole = λ end other joined. joined_known links seen far_ends end other joined.0 known
      (let lt : joined.0 < length links = joined.1 in omega arith) joined.2;
}

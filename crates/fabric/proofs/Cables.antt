-- Link ends, one link after the other: their refusals, their channels, and where those lie.
use Rattle.std.proofs.Common.{◌≡◌, ℕ, zero, suc, ◌+◌, ◌/◌, ◌%◌, ◌<◌, ◌≤◌, Bool, true, false, cond, ◌||◌, eqb, ltb, leb, List, [], ◌∷◌, ◌++◌, map, length, get_or, drop, Some, None, Option, sym, refl, ap, subst, ◌∙◌, arith, MatchOption}
use Rattle.std.specs.List.{flat_map}
use Rattle.std.specs.Simd.{first_chunks}
use Rattle.std.proofs.lemmas.Bool.Decides.{nat_tests}
use Rattle.std.proofs.lemmas.List.{drop_more, drop_all, length-map}
use Rattle.std.proofs.lemmas.Bool.{or_parts, leb-false, eqb-false}
use Rattle.model.specs.Net.{Channel, channels_of}
use Rattle.model.specs.Refusals.{Refusal}
use Rattle.model.specs.Cabling.{link_refusal, cabling_refusal, bad_switch_count, bad_end_list, missing_end, equal_ends, Cabled, Refused}
use Rattle.model.proofs.LinkTests.{cabling_exact_lem}
use Rattle.fabric.specs.Channels.{plain, Inside, starts, finishes, Linked}
use Rattle.fabric.specs.Faults.{fabric_refusal}
use Rattle.fabric.specs.declared.channel.Channel.{Channel as CodeChannel}
use Rattle.fabric.specs.declared.fault.FabricFault.{FabricFault}

-- the ends of each link
abbrev pub links_of : List ℕ → List (List ℕ)
links_of ends = first_chunks 2 (length ends / 2) ends

-- the refusal of links, the first of which is number i
abbrev pub refusal_from : ℕ → ℕ → List (List ℕ) → Option Refusal
refusal_from n i [] = None
refusal_from n i (link ∷ links) =
    cond (leb n (get_or link 0 0) || leb n (get_or link 1 0)) (Some (missing_end i))
    (cond (eqb (get_or link 0 0) (get_or link 1 0)) (Some (equal_ends i)) (refusal_from n (i + 1) links))

one_link_more : (a b : ℕ) (ends : List ℕ) → links_of (a ∷ (b ∷ ends)) ≡ (a ∷ (b ∷ [])) ∷ links_of ends
one_link_more a b ends =
    let half : length (a ∷ (b ∷ ends)) / 2 ≡ suc (length ends / 2) = omega arith in
    ap (λ (k : ℕ). first_chunks 2 k (a ∷ (b ∷ ends))) half

pub refusal_is : (n i : ℕ) (ends : List ℕ) → link_refusal n i ends ≡ refusal_from n i (links_of ends)
refusal_is n i [] = refl
refusal_is n i (a ∷ []) = refl
refusal_is n i (a ∷ (b ∷ ends)) =
    ap (λ (o : Option Refusal). cond (leb n a || leb n b) (Some (missing_end i)) (cond (eqb a b) (Some (equal_ends i)) o)) (refusal_is n (i + 1) ends)
    ∙ sym (ap (refusal_from n i) (one_link_more a b ends))

pub refusal_more : (n i : ℕ) (links : List (List ℕ)) → i < length links
    → refusal_from n i (drop i links)
    ≡ cond (leb n (get_or (get_or links i []) 0 0) || leb n (get_or (get_or links i []) 1 0)) (Some (missing_end i))
    (cond (eqb (get_or (get_or links i []) 0 0) (get_or (get_or links i []) 1 0)) (Some (equal_ends i)) (refusal_from n (i + 1) (drop (i + 1) links)))
refusal_more n i links h = ap (refusal_from n i) (drop_more links i [] h)

pub refusal_end : (n i : ℕ) (links : List (List ℕ)) → length links ≤ i → refusal_from n i (drop i links) ≡ None
refusal_end n i links h = ap (refusal_from n i) (drop_all i links h)

pub ruleset link_tests = (refusal_is, refusal_more, refusal_end, nat_tests)

-- the two channels of a link
abbrev pub both : List ℕ → List Channel
both link = record { start = get_or link 0 0; finish = get_or link 1 0 } ∷ (record { start = get_or link 1 0; finish = get_or link 0 0 } ∷ [])

pub channels_are : (ends : List ℕ) → channels_of ends ≡ flat_map both (links_of ends)
channels_are [] = refl
channels_are (a ∷ []) = refl
channels_are (a ∷ (b ∷ ends)) =
    ap (λ (z : List Channel). both (a ∷ (b ∷ [])) ++ z) (channels_are ends) ∙ sym (ap (flat_map both) (one_link_more a b ends))

-- where nothing is refused
not_refused : (b : Bool) (r : Refusal) (o : Option Refusal) → cond b (Some r) o ≡ None → (b ≡ false) × (o ≡ None)
not_refused true r o h = cc
not_refused false r o h = (refl, h)

pub cabled : (n : ℕ) (ends : List ℕ) → cabling_refusal n ends ≡ None → Cabled n ends
cabled n ends h = by (cabling_refusal n ends) h (cabling_exact_lem n ends)
  where
    by : (o : Option Refusal) → o ≡ None → MatchOption o (Cabled n ends) (λ r. Refused n ends r) → Cabled n ends
    by None e c = c
    by (Some r) e c = cc

links_pass : (n : ℕ) (ends : List ℕ) → cabling_refusal n ends ≡ None → link_refusal n 0 ends ≡ None
links_pass n ends h =
    (not_refused (eqb (length ends % 2) 1 || (eqb (length ends) 0 || ltb 128 (length ends))) bad_end_list (link_refusal n 0 ends)
    (not_refused (ltb n 2 || ltb 32 n) bad_switch_count _ h).1).1

links_inside : (n i : ℕ) (ends : List ℕ) → link_refusal n i ends ≡ None → Inside n (channels_of ends)
links_inside n i [] h = λ c l. absurd (omega arith)
links_inside n i (a ∷ []) h = λ c l. absurd (omega arith)
links_inside n i (a ∷ (b ∷ ends)) h = at (links_inside n (i + 1) ends inner.1)
  where
    outer : (leb n a || leb n b) ≡ false
    outer = (not_refused (leb n a || leb n b) (missing_end i) _ h).0

    inner : (eqb a b ≡ false) × (link_refusal n (i + 1) ends ≡ None)
    inner = not_refused (eqb a b) (equal_ends i) (link_refusal n (i + 1) ends) (not_refused (leb n a || leb n b) (missing_end i) _ h).1

    a_in : a < n
    a_in = leb-false n a (or_parts (leb n a) (leb n b) outer).0

    b_in : b < n
    b_in = leb-false n b (or_parts (leb n a) (leb n b) outer).1

    at : Inside n (channels_of ends) → Inside n (channels_of (a ∷ (b ∷ ends)))
    at rest zero l = (a_in, b_in, eqb-false a b inner.0)
    at rest (suc zero) l = (b_in, a_in, λ e. eqb-false a b inner.0 (sym e))
    at rest (suc (suc c)) l = rest c (omega arith)

pub inside : (n : ℕ) (ends : List ℕ) → cabling_refusal n ends ≡ None → Inside n (channels_of ends)
inside n ends h = links_inside n 0 ends (links_pass n ends h)

-- two channels a link
pub channel_count_lem : (ends : List ℕ) → length ends % 2 ≡ 0 → length (channels_of ends) ≡ length ends
channel_count_lem [] h = refl
channel_count_lem (a ∷ []) h = absurd (omega arith)
channel_count_lem (a ∷ (b ∷ ends)) h = omega (arith, channel_count_lem ends (omega arith))

-- the ends come back
pub starts_of : (ends : List ℕ) → length ends % 2 ≡ 0 → starts (channels_of ends) ≡ ends
starts_of [] h = refl
starts_of (a ∷ []) h = absurd (omega arith)
starts_of (a ∷ (b ∷ ends)) h = ap (λ (z : List ℕ). a ∷ (b ∷ z)) (starts_of ends (omega arith))

pub linked : (ends : List ℕ) → length ends % 2 ≡ 0 → Linked (channels_of ends)
linked ends h =
    let e : channels_of (starts (channels_of ends)) ≡ channels_of ends = ap (λ (z : List ℕ). channels_of z) (starts_of ends h) in
    (ap (λ (z : List Channel). starts z) e, ap (λ (z : List Channel). finishes z) e)

-- channels that start and end alike are the same
same_channels : (cs ds : List Channel) → starts cs ≡ starts ds → finishes cs ≡ finishes ds → cs ≡ ds
same_channels [] [] p q = refl
same_channels [] (d ∷ ds) p q = cc
same_channels (c ∷ cs) [] p q = cc
same_channels (c ∷ cs) (d ∷ ds) p q =
    let a : c.start ≡ d.start = cc in
    let b : c.finish ≡ d.finish = cc in
    let s : starts cs ≡ starts ds = cc in
    let f : finishes cs ≡ finishes ds = cc in
    ap (λ (n : ℕ). record { start = n; finish = c.finish } ∷ cs) a ∙ ap (λ (n : ℕ). record { start = d.start; finish = n } ∷ cs) b
    ∙ ap (λ (z : List Channel). d ∷ z) (same_channels cs ds s f)

-- linked channels are those of the links whose ends are their starts
pub linked_channels : (cs : List Channel) → Linked cs → channels_of (starts cs) ≡ cs
linked_channels cs h = same_channels (channels_of (starts cs)) cs h.0 h.1

-- a fault that is this refusal
pub found : (e : FabricFault) (o : Option Refusal) → MatchOption (fabric_refusal e) ⊥ (λ r. o ≡ Some r) → fabric_refusal e ≡ o
found e o h = by (fabric_refusal e) h
  where
    by : (p : Option Refusal) → MatchOption p ⊥ (λ r. o ≡ Some r) → p ≡ o
    by None h = absurd h
    by (Some r) h = sym h

-- what a fabric keeps, of channels that are those of ends that nothing refuses
pub makes : (n : ℕ) (ends : List ℕ) (cs : List CodeChannel) → cabling_refusal n ends ≡ None → map plain cs ≡ channels_of ends
    → (2 ≤ n) × (n ≤ 32) × (1 ≤ length cs) × (length cs ≤ 128) × Inside n (map plain cs) × Linked (map plain cs)
makes n ends cs pass same =
    let made : Cabled n ends = cabled n ends pass in
    let size = channel_count_lem ends made.counted.paired in
    let long = length-map cs plain in
    let all = ap length same in (
      made.counted.enough,
      made.counted.few,
      omega (arith, made.counted.some),
      omega (arith, made.counted.short),
      subst (λ (z : List Channel). Inside n z) (sym same) (inside n ends pass),
      subst (λ (z : List Channel). Linked z) (sym same) (linked ends made.counted.paired),
    )

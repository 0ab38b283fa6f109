-- From what the parts of the check found to its answer.
use Rattle.std.proofs.Common.{◌≡◌, ℕ, ◌*◌, ◌≤◌, true, false, leb, List, ◌++◌, length, drop, Some, None, Option, Ok, Err, Result, MatchOption, sym, refl, ap, ◌∙◌, subst}
use Rattle.std.proofs.lemmas.Bool.{and_parts, leb-true, cond-true, cond-false}
use Rattle.model.specs.Net.{count}
use Rattle.model.specs.Refusals.{Refusal}
use Rattle.model.specs.Rules.{Setup}
use Rattle.model.specs.Verdicts.{Accepts, Verdict, fine, stopped, unreached, laneless, cyclic, verdict}
use Rattle.model.proofs.Judging.{verdict_exact_lem}
use Rattle.routing.specs.Faults.{rule_refusal}
use Rattle.routing.specs.declared.fault.RuleFault.{RuleFault}
use Rattle.routing.specs.declared.fault.RuleFault.TheVariants.{Cyclic}
use Rattle.lane_check.specs.declared.verdict.Accepted.{Accepted}
use Rattle.lane_check.specs.Findings.{Finding, refused, finding, FirstFault}
use Rattle.lane_check.specs.Checks.{few_lanes, long_enough, bad_lane_count, short_list, found, Refuses, Settles, Checked, YesExactly}
use Rattle.lane_check.specs.Answers.{accepted, LanesSettled}

pub long_parts : (lanes n o c : ℕ) → true ≡ long_enough lanes n o c → (lanes * n ≤ o) × (n ≤ c)
long_parts lanes n o c e = let p = and_parts (leb (lanes * n) o) (leb n c) (sym e) in (leb-true (lanes * n) o p.0, leb-true n c p.1)

module _ (g : Setup) (o c : ℕ) where
  pub found_count : few_lanes g.lanes ≡ false → found g o c ≡ refused bad_lane_count
  found_count h = cond-false _ _ _ h

  pub found_short : few_lanes g.lanes ≡ true → false ≡ long_enough g.lanes (count g.net) o c → found g o c ≡ refused short_list
  found_short few long = cond-true _ _ _ few ∙ cond-false _ _ _ (sym long)

  pub found_verdict : few_lanes g.lanes ≡ true → true ≡ long_enough g.lanes (count g.net) o c → found g o c ≡ finding (verdict g)
  found_verdict few long = cond-true _ _ _ few ∙ cond-true _ _ _ (sym long)

-- The answer of the check to what it found is a yes exactly for an accepted setup.
module _ (g : Setup) (o o' c c' : List ℕ) where
  abbrev pub Answers : Result Accepted RuleFault → Type 0
  Answers r = record { exact : Checked (accepted g) g o o' c c' r; accepts : YesExactly (accepted g) g (length o) (length c) r }

  pub answers : (v : Finding) (r : Result Accepted RuleFault) → found g (length o) (length c) ≡ v → Settles (accepted g) g v o o' c c' r → Answers r
  answers v r e s =
      let exact : Checked (accepted g) g o o' c c' r = subst (λ (z : Finding). Settles (accepted g) g z o o' c c' r) (sym e) s in
      record {
        exact = exact;
        accepts = λ few long.
            by_verdict r (verdict g) refl
            (subst (λ (z : Finding). Settles (accepted g) g z o o' c c' r) (cond-true _ _ _ few ∙ cond-true _ _ _ long) exact);
      }
    where
      no_yes : (r : Result Accepted RuleFault) (x : Refusal) → Refuses x r → (fine ≡ verdict g → ⊥) → (r ≡ Ok (accepted g) → Accepts g) × (Accepts g → r ≡ Ok (accepted g))
      no_yes (Ok a) x h n = absurd h
      no_yes (Err f) x h n = ((λ y. cc), λ A. absurd (n (sym ((verdict_exact_lem g).1 A))))

      by_verdict : (r : Result Accepted RuleFault) (v : Verdict) → verdict g ≡ v → Settles (accepted g) g (finding v) o o' c c' r
          → (r ≡ Ok (accepted g) → Accepts g) × (Accepts g → r ≡ Ok (accepted g))
      by_verdict r fine e t = (λ y. (verdict_exact_lem g).0 e, λ A. t.0)
      by_verdict r (stopped s d u) e t = no_yes r _ t.0 (λ q. cc)
      by_verdict r (unreached s d) e t = no_yes r _ t.0 (λ q. cc)
      by_verdict r (laneless s d) e t = no_yes r _ t.0 (λ q. cc)
      by_verdict r (cyclic ℓ) e t = no_yes r _ t.2 (λ q. cc)

  -- What a fault of the pairs, a cycle of a lane, and neither of them leave.
  module _ (few : few_lanes g.lanes ≡ true) (long : true ≡ long_enough g.lanes (count g.net) (length o) (length c)) where
    at : (v : Verdict) (r : Result Accepted RuleFault) → verdict g ≡ v → Settles (accepted g) g (finding v) o o' c c' r → Answers r
    at v r e s = answers (finding v) r (found_verdict g (length o) (length c) few long ∙ ap finding e) s

    pub fault_answers : (f : RuleFault) → FirstFault g (Err f) → o' ≡ o → c' ≡ c → Answers (Err f)
    fault_answers f t p q = by (rule_refusal f) refl t
      where
        by : (x : Option Refusal) → rule_refusal f ≡ x → MatchOption x ⊥ (λ x. finding (verdict g) ≡ refused x) → Answers (Err f)
        by None e t = absurd t
        by (Some x) e t = answers (refused x) (Err f) (found_verdict g (length o) (length c) few long ∙ t) (e, p, q)

    pub cycle_answers : (f : RuleFault) → LanesSettled g o o' c c' (Err f) → Answers (Err f)
    cycle_answers f s =
        let L = s.0.4 in
        at (cyclic s.0.0) (Err f) s.0.3 (L.cycle, L.round, ap rule_refusal s.0.2 ∙ ap (λ (n : ℕ). rule_refusal (Cyclic s.0.0 n)) (sym L.size), s.1, L.list ∙ ap (λ (n : ℕ). L.cycle ++ drop n c) (sym L.size))

    pub yes_answers : LanesSettled g o o' c c' (Ok tt) → Answers (Ok (accepted g))
    yes_answers s = at fine (Ok (accepted g)) s.0.0 (refl, s.1, s.0.1)

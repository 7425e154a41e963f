-- A claim that is an equation permits one answer.
use mathlib.Core.Path.{◌≡◌, sym, ◌∙◌, ap}

pub sole : {A : Type 0} {r r' x : A} → r ≡ x → r' ≡ x → r ≡ r'
sole p q = p ∙ sym q

-- So does one that is an equation of what the answer says, where the answer comes back from it.
pub sole_said : {A B : Type 0} (says : A → B) (back : B → A) → ((r : A) → back (says r) ≡ r) → {r r' : A} {x : B} → says r ≡ x → says r' ≡ x → r ≡ r'
sole_said says back comes {r} {r'} p q = sym (comes r) ∙ ap back (sole p q) ∙ comes r'

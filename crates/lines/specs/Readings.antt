-- What a text is read as.
use Rattle.std.specs.Prelude.{◌≡◌}
use Rattle.plain.specs.declared.fault.Fault.{Fault}
use Rattle.plain.specs.declared.fault.Fault.TheVariants.{Malformed}

-- a fault that blames the text is right: nothing is what the text says
pub record Blames {A : Type 0} (Says : A → Type 0) (fault : Fault) : Type 0 where
  pub nothing : fault ≡ Malformed → (a : A) → Says a → ⊥

-- one value, made of what is said of its part
pub record One {A C : Type 0} (First : A → Type 0) (make : A → C) (made : C) : Type 0 where
  pub first : A
  pub is_first : First first
  pub is : made ≡ make first

-- one value, made of what is said of its two parts
pub record Two {A B C : Type 0} (First : A → Type 0) (Second : B → Type 0) (make : A → B → C)
    (made : C) : Type 0 where
  pub first : A
  pub second : B
  pub is_first : First first
  pub is_second : Second second
  pub is : made ≡ make first second

-- one value, made of what is said of its three parts
pub record Three {A B C D : Type 0} (First : A → Type 0) (Second : B → Type 0) (Third : C → Type 0)
    (make : A → B → C → D) (made : D) : Type 0 where
  pub first : A
  pub second : B
  pub third : C
  pub is_first : First first
  pub is_second : Second second
  pub is_third : Third third
  pub is : made ≡ make first second third

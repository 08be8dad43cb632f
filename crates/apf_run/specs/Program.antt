-- `program`: a generated program alone.
use Rattle.std.specs.Prelude.{◌≡◌, ◌≤◌, nat_lt, if◌then◌else◌, List, [], ◌∷◌, ◌++◌, ℕ, length, replicate, codes, Option, None, Some}
use Rattle.hex.specs.Hex.{encode_lower}
use Rattle.apf_generate.specs.Means.{Means}
use Rattle.apf_coding.specs.Words.{AreBytes}
use Rattle.apf_generate.specs.Sizes.{need_of}
use Rattle.policy_state.specs.declared.basis.Basis.{Basis}
use Rattle.policy_state.specs.declared.state.FilterState.{FilterState}
use Rattle.size_fit.specs.Sizes.{base_for, limit_for}
use Rattle.command_plan.specs.Meaning.{CommandMeaning, command, spelled}
use Rattle.command_plan.specs.Plan.{Plan, ◌>>=◌, picks, says, unless}
use Rattle.command_plan.specs.declared.fault.Refusal.{Refusal}
use Rattle.command_plan.specs.declared.fault.Refusal.TheVariants.{TooLarge}
use Rattle.apf_run.specs.Settings.{Setting, setting_for}

-- the state of a setting: without keepalives
abbrev pub setting_state : Setting → FilterState
setting_state setting = record { multicast = setting.flags.multicast; doze = setting.flags.doze; address = setting.address; keepalives = replicate 8 None }

-- the basis of a setting: nothing is denied, and no record is chosen
pub record IsBasisOf (setting : Setting) (basis : Basis) : Type 0 where
  pub mac : basis.config.mac ≡ setting.mac
  pub capacity : basis.config.capacity ≡ setting.capacity
  pub drop_802_3 : basis.config.drop_802_3 ≡ setting.flags.drop_802_3
  pub deny : basis.config.deny ≡ []
  pub state : basis.state ≡ setting_state setting
  pub chosen : basis.chosen ≡ []

-- a code, two hexadecimal digits a byte
unfoldable pub code_line : List ℕ → List ℕ
code_line code = encode_lower code ++ codes "\n"

-- a code means a setting, and is no longer than a program for it may be
pub record IsCodeOf (setting : Setting) (code : List ℕ) : Type 0 where
  pub basis : Basis
  pub of : IsBasisOf setting basis
  pub bytes : AreBytes code
  pub means : Means code basis
  pub short : length code ≤ need_of basis

-- the base, without denied ethertypes and keepalives, is to fit the capacity
abbrev pub setting_refusal : Setting → Option Refusal
setting_refusal setting =
    if nat_lt (limit_for setting.capacity) (base_for 0 0) then Some (TooLarge (base_for 0 0) (limit_for setting.capacity)) else None

-- a code that means the setting, where its base fits
abbrev pub generates : Setting → Plan (List ℕ)
generates setting = do
  _ ← unless (setting_refusal setting)
  picks (IsCodeOf setting)

-- one line, of a code that means the setting
abbrev pub program_plan : Setting → Plan (Unit {0})
program_plan setting = do
  code ← generates setting
  says (code_line code ∷ [])

-- `program MAC CAPACITY ADDRESS FLAGS`
abbrev pub program_meaning : List ℕ → List ℕ → List ℕ → List ℕ → CommandMeaning
program_meaning mac capacity address flags = spelled (setting_for mac capacity address flags) (λ setting. command (program_plan setting))

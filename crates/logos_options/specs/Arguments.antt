-- The arguments of a command line.
use Rattle.std.specs.Prelude.{ℕ, List, [], ◌∷◌, Bool, false, Option, Some, None, if◌then◌else◌, get_or, is_some, map, option_map, replicate, set}
use Rattle.logos_options.specs.ArgumentSteps.{OptionValue, StepValue, UseValue, given, option_value, path, step}
use Rattle.logos_options.specs.Options.{number, role_of}
use Rattle.logos_options.specs.Paths.{not_begun, path_named}
use Rattle.logos_options.specs.Programs.{takes}
use Rattle.logos_options.specs.declared.argument_steps.ArgumentProgress.{ArgumentProgress}
use Rattle.logos_options.specs.declared.arguments.Arguments.{Arguments}
use Rattle.logos_options.specs.declared.arguments.Settings.{Settings}
use Rattle.logos_options.specs.declared.options.OptionName.{OptionName}
use Rattle.logos_options.specs.declared.options.OptionRole.{OptionRole}
use Rattle.logos_options.specs.declared.options.OptionRole.TheVariants as roles
use Rattle.logos_options.specs.declared.program.Program.{Program}
use Rattle.logos_options.specs.declared.program.Program.TheVariants.{Cli, Show}

-- The two paths; for the number of each setting its value, if it is given; a question; the option
-- whose text is requested; and the state of reading.
pub record ArgumentsValue : Type 0 where
  pub first : Option (List ℕ)
  pub second : Option (List ℕ)
  pub settings : List (Option (List ℕ))
  pub question : Option OptionValue
  pub text : Option OptionName
  pub progress : ArgumentProgress

-- An empty command line: no option of the table is given.
abbrev pub nothing_given : ArgumentsValue
nothing_given = record { first = None; second = None; settings = replicate 17 None; question = None; text = None; progress = not_begun }

-- The value of a setting, if it is given.
abbrev pub setting : OptionName → List (Option (List ℕ)) → Option (List ℕ)
setting option settings = get_or settings (number option) None

-- Whether a setting is given.
abbrev pub is_set : OptionName → List (Option (List ℕ)) → Bool
is_set option settings = is_some (setting option settings)

-- The arguments after a path that follows two others. `logos_show` takes at most two.
abbrev pub with_third : Program → ArgumentsValue → Option ArgumentsValue
with_third Cli arguments = Some arguments
with_third Show arguments = None

abbrev pub with_path : Program → ArgumentsValue → List ℕ → Option ArgumentsValue
with_path program arguments word =
    if is_some arguments.first then (if is_some arguments.second then with_third program arguments else Some (record arguments { second = Some word }))
    else Some (record arguments { first = Some word })

-- The arguments with one more setting, which may be given only once.
abbrev pub with_setting : ArgumentsValue → OptionValue → Option ArgumentsValue
with_setting arguments one =
    if is_set one.option arguments.settings then None
    else Some (record arguments { settings = set arguments.settings (number one.option) (Some one.value) })

-- The arguments with a question, of which there may be only one.
abbrev pub with_question : ArgumentsValue → OptionValue → Option ArgumentsValue
with_question arguments one = if is_some arguments.question then None else Some (record arguments { question = Some one })

-- The arguments with one more option, according to its role.
abbrev pub with_role : ArgumentsValue → OptionValue → OptionRole → Option ArgumentsValue
with_role arguments one roles.Setting = with_setting arguments one
with_role arguments one roles.Question = with_question arguments one
with_role arguments one roles.Text = Some (record arguments { text = Some one.option })

-- The arguments with one more option, if the program takes it.
abbrev pub with_given : Program → ArgumentsValue → OptionValue → Option ArgumentsValue
with_given program arguments one = if takes program one.option then with_role arguments one (role_of one.option) else None

-- The arguments with one more path or option.
abbrev pub with_use : Program → ArgumentsValue → UseValue → Option ArgumentsValue
with_use program arguments (path word) = with_path program arguments (path_named word)
with_use program arguments (given one) = with_given program arguments one

abbrev pub with_found : Program → ArgumentsValue → Option UseValue → Option ArgumentsValue
with_found program arguments None = Some arguments
with_found program arguments (Some found) = with_use program arguments found

abbrev pub with_step : Program → ArgumentsValue → Option StepValue → Option ArgumentsValue
with_step program arguments None = None
with_step program arguments (Some next) = with_found program (record arguments { progress = next.progress }) next.found

-- The arguments after one more word. After an option that requests a text no word is read.
abbrev pub with_word : Program → ArgumentsValue → List ℕ → Option ArgumentsValue
with_word program arguments word = if is_some arguments.text then Some arguments else with_step program arguments (step arguments.progress word)

-- The arguments after all these words, one after another.
abbrev pub with_arguments : Program → Option ArgumentsValue → List (List ℕ) → Option ArgumentsValue
with_arguments program arguments [] = arguments
with_arguments program None (word ∷ rest) = None
with_arguments program (Some arguments) (word ∷ rest) = with_arguments program (with_word program arguments word) rest

-- The arguments, if no option lacks its value or a text is requested.
abbrev pub settled_by : ArgumentsValue → Option OptionName → Option OptionName → Option ArgumentsValue
settled_by arguments (Some text) pending = Some arguments
settled_by arguments None None = Some arguments
settled_by arguments None (Some option) = None

abbrev pub settled : Option ArgumentsValue → Option ArgumentsValue
settled None = None
settled (Some arguments) = settled_by arguments arguments.text arguments.progress.pending

-- The arguments of a command line, if the program takes them.
abbrev pub arguments_of : Program → List (List ℕ) → Option ArgumentsValue
arguments_of program arguments = settled (with_arguments program (Some nothing_given) arguments)

-- The view of the settings.
abbrev pub settings_value : Settings → List (Option (List ℕ))
settings_value settings = map (option_map (λ text. text.now)) settings.values

-- The view of the arguments of a command line.
abbrev pub arguments_value : Arguments → ArgumentsValue
arguments_value arguments = record {
  first = option_map (λ path. path.now) arguments.first;
  second = option_map (λ path. path.now) arguments.second;
  settings = settings_value arguments.settings;
  question = option_map option_value arguments.question;
  text = arguments.text;
  progress = arguments.progress;
}

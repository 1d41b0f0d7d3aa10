-- The courses of modprobe over a folder that is as it was indexed end for no file that depmod
-- wrote.
use Rattle.std.proofs.Common.{◌≡◌, ◌∙◌, ℕ, Bool, true, false, List, [], ◌∷◌, ◌++◌, find, get_or}
use Rattle.std.proofs.Common.{map, reverse, flat_map, take, None, refl, sym, ap, subst, arith}
use Rattle.std.specs.Prelude.{Option, Some, Result, Ok, Err, T, codes, is_some, nat_eq, option_map}
use Rattle.std.specs.Prelude.{⊤}
use Rattle.std.specs.List.{ends_with}
use Rattle.km_names.specs.AliasForm.{normal_or_itself}
use Rattle.km_names.specs.First.{first}
use Rattle.km_names.specs.Path.{is_compressed, path_below}
use Rattle.km_names.specs.Statements.{LinePlace}
use Rattle.km_names.specs.declared.conf.ConfFile.{ConfFile}
use Rattle.outside_calls.specs.Contents.{Contents}
use Rattle.kmod_words.specs.declared.modprobe.Mode.{Mode}
use Rattle.kmod_words.specs.declared.modprobe.Mode.TheVariants.{Load, DryRun, ShowDepends}
use Rattle.kmod_words.specs.declared.modprobe.Mode.TheVariants.{ResolveAlias, Remove}
use Rattle.kmod_words.specs.declared.modprobe.ModprobeWords.{ModprobeWords}
use Rattle.kmod_words.specs.Modes.{given_map}
use Rattle.kmod_words.specs.Modprobe.{region_asked}
use Rattle.km_course.specs.Course.{Outcome, Stage, ◌>>=◌, each_from, ends, given, lists_any_conf}
use Rattle.km_course.specs.Course.{lists_conf, reads, says, says_any}
use Rattle.km_course.specs.Course.Outcome.{value, end}
use Rattle.km_course.specs.declared.end.End.{End}
use Rattle.km_course.specs.declared.end.End.TheVariants.{NoFile, Refused}
use Rattle.km_course.specs.declared.refusal.Refusal.TheVariants.{BadLine, BadModule, Compressed}
use Rattle.km_course.specs.declared.refusal.Refusal.TheVariants.{InstallChosen}
use Rattle.km_course.specs.declared.refusal.Refusal.TheVariants.{KernelWithoutAddress}
use Rattle.km_course.specs.declared.refusal.Refusal.TheVariants.{ListedNotFound, ListedRefused}
use Rattle.km_course.specs.declared.refusal.Refusal.TheVariants.{LoadRefused, NotFound}
use Rattle.km_course.specs.declared.refusal.Refusal.TheVariants.{ParamsRefused, InUse, RemoveChosen}
use Rattle.km_course.specs.declared.refusal.Refusal.TheVariants.{Obstacle as Unplanned}
use Rattle.index_read.specs.Contents.{contents}
use Rattle.index_read.specs.declared.index.Index.{Index}
use Rattle.index_read.proofs.ContentsLemmas.{held as contents-held}
use Rattle.module_facts.specs.declared.facts.Facts.{Facts}
use Rattle.module_facts.specs.declared.fault.ModuleFault.{ModuleFault}
use Rattle.module_facts.specs.declared.module.Module.{Module}
use Rattle.module_facts.specs.Faults.{fact_fault}
use Rattle.module_facts.specs.FaultText.{module_fault_text}
use Rattle.modprobe_conf.specs.declared.rule.Rule.{Rule}
use Rattle.modprobe_conf.specs.Rules.{rules_of}
use Rattle.kernel_exports.specs.declared.kernel.Kernel.{Kernel}
use Rattle.kernel_exports.specs.declared.kernel.KernelExport.{KernelExport}
use Rattle.provider_rel.specs.Faces.{kernel_of}
use Rattle.kernel_exports.specs.KernelTable.{exports_of_map, exports_of_symvers}
use Rattle.kernel_exports.specs.KernelTable.{exports_with_addresses}
use Rattle.load_fault.specs.declared.fault.LoadFault.{LoadFault}
use Rattle.module_region.specs.declared.region.Region.{Region}
use Rattle.load_fault.specs.FaultText.{load_fault_text}
use Rattle.model_loader.specs.Machine.{Machine}
use Rattle.model_loader.specs.Step.{step}
use Rattle.model_loader.specs.Use.{name_at}
use Rattle.name_lookup.specs.declared.indexes.Indexes.{Indexes}
use Rattle.symbol_binding.specs.declared.unbound.Unbound.TheVariants as lines
use Rattle.unmet_file.specs.Line.{line_text}
use Rattle.plan_builder.specs.declared.request.Request.{Request}
use Rattle.plan_builder.specs.declared.step.PlanStep.{PlanStep}
use Rattle.plan_builder.specs.Obstacles.{PlanObstacle, bad_dep_line, name_not_found, unbound_line}
use Rattle.plan_builder.specs.Obstacles.{plan_cycle, obstacle_of}
use Rattle.plan_builder.specs.Steps.{plan_steps}
use Rattle.plan_builder.specs.Text.{plan_text}
use Rattle.depmod_core.specs.Files.{files}
use Rattle.laws_indexed_folder.specs.Binding.{StandsAsIndexed}
use Rattle.laws_indexed_folder.specs.Indexed.{Indexed}
use Rattle.laws_indexed_folder.proofs.IndexedLemmas.{folders-read}
use Rattle.laws_indexed_folder.proofs.ObstacleLemmas.{lines-are-no-obstacle}
use Rattle.stages_files.specs.Configuration.{folder_name, lists_folder, lists_folders, paths_of}
use Rattle.stages_files.specs.Configuration.{reads_configuration, reads_file, reads_files}
use Rattle.stages_files.specs.Configuration.{reads_given, reads_listed, roots, stated_outcome}
use Rattle.stages_files.specs.declared.configuration.ListedFolder.{ListedFolder}
use Rattle.stages_files.specs.declared.configuration.Tool.TheVariants.{Modprobe}
use Rattle.stages_files.specs.KernelModules.{modules_folder, path_listed}
use Rattle.stages_files.specs.KernelTable.{Table, reads_map, reads_symvers, table_outcome}
use Rattle.stages_files.proofs.TableSteps.{map_read, symvers_read}
use Rattle.stages_loads.specs.declared.load.Cause.{Cause}
use Rattle.stages_loads.specs.declared.load.Cause.TheVariants.{Listed, Planned}
use Rattle.stages_loads.specs.Listed.{listed_outcome, loads_listed, loads_listed_one}
use Rattle.stages_loads.specs.Listed.{loads_listed_at}
use Rattle.model_loader.specs.declared.entry.LoadedModule.{LoadedModule}
use Rattle.param_apply.specs.declared.apply.Params.{Params}
use Rattle.param_apply.specs.declared.fault.ParamFault.{ParamFault}
use Rattle.param_apply.specs.Applied.{param_fault}
use Rattle.param_apply.specs.FaultText.{param_fault_text}
use Rattle.stages_loads.specs.declared.load.Insertion.{Insertion}
use Rattle.stages_loads.specs.declared.shown.Images.{Images}
use Rattle.stages_loads.specs.Loads.{ShownImage, entered, finished_params, load_outcome, loads}
use Rattle.stages_loads.specs.Loads.{loads_all, loads_one, machine_image, params_image}
use Rattle.stages_loads.specs.Loads.{params_outcome, puts_image, shows_image}
use Rattle.stages_loads.specs.Loads.{shows_load, shows_params}
use Rattle.stages_loads.specs.Modules.{file_outcome, module_outcome, reads_module}
use Rattle.stages_loads.specs.Tables.{machine_outcome, reads_addressed, reads_machine, unplaced}
use Rattle.stages_loads.proofs.ListedSteps.{listed_found, listed_read}
use Rattle.stages_loads.proofs.LoadSteps.{finished_shown, line_said, one_loaded, one_read}
use Rattle.stages_loads.proofs.LoadSteps.{one_shown, params_shown}
use Rattle.stages_loads.proofs.ModuleSteps.{checked}
use Rattle.stages_loads.proofs.TableSteps.{both_added, both_read, both_understood, made}
use Rattle.model_loader.specs.declared.entry.Entry.{Entry}
use Rattle.stages_known.specs.declared.known.Known.{Known}
use Rattle.stages_known.specs.Known.{reads_known, reads_loaded}
use Rattle.command_modprobe.specs.Loaded.{command_owner, images_asked, inserted, inserts_outcome}
use Rattle.command_modprobe.specs.Loaded.{loads_plan, loads_steps}
use Rattle.remove_plan.specs.declared.step.RemoveStep.{RemoveStep}
use Rattle.remove_plan.specs.Removal.{in_use, is_asked}
use Rattle.remove_plan.specs.Steps.{removal_steps}
use Rattle.command_remove.specs.declared.course.Removal.{Removal}
use Rattle.command_remove.specs.Listed.{well_formed_path}
use Rattle.command_remove.specs.Lines.{left_lines, step_lines, unloaded_line}
use Rattle.command_remove.specs.Remove.{chosen_outcome, first_owner, removal_of, removes}
use Rattle.command_remove.specs.Remove.{removes_listed, step_name, steps_outcome, steps_unless}
use Rattle.command_remove.specs.Remove.{unloads_one, unloads_unless}
use Rattle.command_remove.proofs.RemoveSteps as removals
use Rattle.command_remove.proofs.RemoveSteps.{after_left, one_unloaded}
use Rattle.command_modprobe.specs.Modprobe.{modprobe_in_mode}
use Rattle.command_modprobe.proofs.CourseSteps.{Fits, map-given, removal-has}
use Rattle.command_modprobe.specs.Parts.{loads_known}
use Rattle.command_modprobe.specs.Planned.{loaded_in, plan_lines, plan_outcome}
use Rattle.command_modprobe.specs.Planned.{request_of, sources_with}
use Rattle.km_names.specs.Lines.{lines_text}
use Rattle.command_modprobe.specs.Resolved.{names_asked}
use Rattle.km_course.specs.Course.{value_unless}
use Rattle.stages_known.specs.Named.{found_names, is_unknown, names_outcome}
use Rattle.stages_known.proofs.KnownSteps.{loaded_stated}
use Rattle.command_modprobe.proofs.LoadSteps.{after_lines, after_listed, after_loads, after_machine}
use Rattle.command_modprobe.proofs.LoadSteps.{after_inserts, after_steps}
use Rattle.laws_planned_loads.specs.Reading.{CoursesPass, IsOtherEnd, IsReading, bad_configuration}
use Rattle.laws_planned_loads.specs.Reading.{indexes_of, is_known, known_of, no_configuration}
use Rattle.laws_planned_loads.specs.Reading.{no_list, of_configuration, of_map, of_symvers}
use Rattle.laws_planned_loads.proofs.EndsLemmas.{EndsIn, ends-each, ends-given, ends-gives}
use Rattle.laws_planned_loads.proofs.EndsLemmas.{ends-names, ends-puts, ends-read, ends-says}
use Rattle.laws_planned_loads.proofs.EndsLemmas.{ends-says_any, ends-then, ends-when, no-end}
use Rattle.laws_planned_loads.proofs.EndsLemmas.{on-end, on-value, so-ends}
use Rattle.laws_planned_loads.proofs.KnownLemmas.{of_folder, one_more_file, one_more_folder}
use Rattle.laws_planned_loads.proofs.KnownLemmas.{only-known}
use Rattle.laws_planned_loads.proofs.ReadingLemmas.{reading-ends, stand}

module _ (held : Contents) (asked : ModprobeWords) where
  abbrev Other : End → Type 0
  Other e = IsOtherEnd held asked e

  other-read : (path : List ℕ) → EndsIn Other (reads path)
  other-read path
      = ends-read Other (end (NoFile path)) path (λ e is. so-ends Other (NoFile path) e tt is) tt

  -- ---- the configuration and the list of loaded modules

  other-file : (before : List ConfFile) (path : List ℕ) → EndsIn Other (reads_file before path)
  other-file before path =
      ends-then Other (reads path) (one_more_file before path) (other-read path)
      (λ bytes. ends-gives Other (before ++ record { path = path; bytes = bytes } ∷ []))

  other-files : (paths : List (List ℕ)) → EndsIn Other (reads_files paths)
  other-files paths = ends-each Other reads_file other-file [] paths

  other-folder : (name : List ℕ) (listed : List ListedFolder) (root : List ℕ)
      → EndsIn Other (lists_folder name listed root)
  other-folder name listed root =
      ends-then Other (lists_any_conf (path_below root name))
      (one_more_folder listed (path_below root name))
      (ends-names Other (value []) _ (path_below root name) (λ e is. absurd (no-end [] e is)) tt)
      (λ names. ends-gives Other
      (listed ++ record { path = path_below root name; names = names } ∷ []))

  other-given : (path : List ℕ) → EndsIn Other (reads_given path)
  other-given path =
      ends-when Other (ends_with nat_eq path (codes ".conf")) (reads_files (path ∷ []))
      (lists_conf path >>= of_folder path)
      (other-files (path ∷ []))
      (ends-then Other (lists_conf path) (of_folder path)
      (ends-names Other (end (NoFile path)) _ path (λ e is. so-ends Other (NoFile path) e tt is) tt)
      (λ names. other-files (paths_of (record { path = path; names = names } ∷ []))))

  other-configuration : (config : Option (List ℕ))
      → EndsIn Other (reads_configuration Modprobe config)
  other-configuration (Some path) = other-given path
  other-configuration None =
      ends-then Other (lists_folders (folder_name Modprobe) roots) reads_listed
      (ends-each Other (lists_folder (folder_name Modprobe))
      (other-folder (folder_name Modprobe)) [] roots)
      (λ folders. other-files (paths_of folders))

  other-stated : (configuration : List ConfFile) (stated : Result (List Rule) LinePlace) (e : End)
      → ((reads_configuration Modprobe asked.config).run held).outcome ≡ value configuration
      → rules_of configuration ≡ stated → stated_outcome stated ≡ end e → Other e
  other-stated configuration (Ok rules) e came is at = absurd (no-end rules e at)
  other-stated configuration (Err place) e came is at =
      so-ends Other (Refused (BadLine place.file place.number)) e
      (of_configuration configuration came is) at

  other-loaded : (listing : Option (List ℕ)) → EndsIn Other (reads_loaded listing)
  other-loaded None = ends-gives Other []
  other-loaded (Some path)
      = ends-then Other (reads path) loaded_stated (other-read path) (λ bytes. ends-gives Other _)

  -- ---- the kernel's tables

  other-table : (file : List ℕ) (stated : Result (List KernelExport) ℕ)
      → ((number : ℕ) → Other (Refused (BadLine file number))) → (e : End)
      → table_outcome file true stated ≡ end e → Other e
  unfolding table_outcome
  other-table file (Ok exports) own e is = absurd (no-end _ e is)
  other-table file (Err number) own e is
      = so-ends Other (Refused (BadLine file number)) e (own number) is

  other-addressed_table : (file : List ℕ) (known : Bool) (stated : Result (List KernelExport) ℕ)
      → ((number : ℕ) → Other (Refused (BadLine file number))) → (e : End)
      → table_outcome file known stated ≡ end e → Other e
  unfolding table_outcome
  other-addressed_table file known (Ok exports) own e is = absurd (no-end _ e is)
  other-addressed_table file known (Err number) own e is
      = so-ends Other (Refused (BadLine file number)) e (own number) is

  other-map : (file : List ℕ) → ((number : ℕ) → Other (Refused (BadLine file number)))
      → EndsIn Other (reads_map file)
  other-map file own =
      ends-then Other (reads file) (map_read file) (other-read file)
      (λ bytes. ends-given Other (table_outcome file true (exports_of_map bytes))
      (other-table file (exports_of_map bytes) own))

  other-symvers : (file : List ℕ) → ((number : ℕ) → Other (Refused (BadLine file number)))
      → EndsIn Other (reads_symvers file)
  other-symvers file own =
      ends-then Other (reads file) (symvers_read file) (other-read file)
      (λ bytes. ends-given Other (table_outcome file true (exports_of_symvers bytes))
      (other-table file (exports_of_symvers bytes) own))

  other-addressed : (map : List ℕ) (symvers : Option (List ℕ))
      → ((number : ℕ) → Other (Refused (BadLine map number)))
      → ((file : List ℕ) (number : ℕ) → symvers ≡ Some file → Other (Refused (BadLine file number)))
      → EndsIn Other (reads_addressed map symvers)
  other-addressed map None own named = other-map map own
  other-addressed map (Some symvers) own named =
      ends-then Other (reads map) (both_read map symvers) (other-read map) (λ bytes.
      ends-then Other (given (table_outcome map true (exports_of_map bytes)))
      (both_understood map symvers bytes)
      (ends-given Other (table_outcome map true (exports_of_map bytes))
      (other-table map (exports_of_map bytes) own)) (λ alone.
      ends-then Other (reads_symvers symvers) (both_added map bytes)
      (other-symvers symvers (λ number. named symvers number refl)) (λ exported.
      ends-given Other
      (table_outcome map exported.known (exports_with_addresses bytes exported.exports))
      (other-addressed_table map exported.known (exports_with_addresses bytes exported.exports)
      own))))

  other-made : (table : Table) (region : Region) (left : Option KernelExport) (e : End)
      → machine_outcome table region left ≡ end e → Other e
  unfolding machine_outcome
  other-made table region None e is = absurd (no-end _ e is)
  other-made table region (Some export) e is
      = so-ends Other (Refused (KernelWithoutAddress export.name)) e tt is

  other-machine : (map : List ℕ) (region : Region) → asked.system_map ≡ Some map
      → EndsIn Other (reads_machine map asked.symvers region)
  other-machine map region mapped =
      ends-then Other (reads_addressed map asked.symvers) (made region)
      (other-addressed map asked.symvers (λ number. of_map mapped)
      (λ file number named. of_symvers named))
      (λ table. ends-given Other (machine_outcome table region (unplaced table.exports))
      (other-made table region (unplaced table.exports)))

  -- ---- loads

  other-read_module : (file path bytes : List ℕ) (fault : Option ModuleFault)
      (is : fact_fault path bytes ≡ fault) (e : End)
      → module_outcome file path bytes fault is ≡ end e → Other e
  unfolding module_outcome
  other-read_module file path bytes None is e at = absurd (no-end _ e at)
  other-read_module file path bytes (Some fault) is e at =
      so-ends Other (Refused (BadModule file (module_fault_text fault))) e tt at

  other-module : (folder path : List ℕ) → EndsIn Other (reads_module folder path)
  other-module folder path =
      let file = path_below folder path in
      ends-when Other (is_compressed path) (ends (Refused (Compressed file)))
      (reads file >>= checked file path)
      (ends-given Other (end (Refused (Compressed file)))
      (λ e is. so-ends Other (Refused (Compressed file)) e tt is))
      (ends-then Other (reads file) (checked file path) (other-read file) (λ bytes.
      ends-given Other (file_outcome file path bytes)
      (other-read_module file path bytes (fact_fault path bytes) refl)))

  other-step : (cause : Cause) (name : List ℕ) (r : Result Machine LoadFault) (e : End)
      → load_outcome cause name r ≡ end e → Other e
  unfolding load_outcome
  other-step cause name (Ok after) e is = absurd (no-end after e is)
  other-step Listed name (Err fault) e is
      = so-ends Other (Refused (ListedRefused name (load_fault_text fault))) e tt is
  other-step Planned name (Err fault) e is
      = so-ends Other (Refused (LoadRefused name (load_fault_text fault))) e tt is

  other-load : (cause : Cause) (machine : Machine) (m : Module)
      → EndsIn Other (loads cause machine m)
  other-load cause machine m =
      ends-given Other (load_outcome cause m.facts.name (step machine m))
      (other-step cause m.facts.name (step machine m))

  other-found : (name : List ℕ) (path : Option (List ℕ)) (e : End)
      → listed_outcome name path ≡ end e → Other e
  other-found name None e is = so-ends Other (Refused (ListedNotFound name)) e tt is
  other-found name (Some path) e is = absurd (no-end path e is)

  other-listed_at : (folder : List ℕ) (machine : Machine) (name : List ℕ) (found : Option (List ℕ))
      → EndsIn Other (loads_listed_at folder machine name found)
  other-listed_at folder machine name found =
      ends-then Other (given (listed_outcome name found)) (listed_found folder machine)
      (ends-given Other (listed_outcome name found) (other-found name found))
      (λ path. ends-then Other (reads_module folder path) (listed_read machine)
      (other-module folder path) (λ m. other-load Listed machine m))

  other-listed : (folder : List ℕ) (index : Index) (machine : Machine) (names : List (List ℕ))
      → EndsIn Other (loads_listed folder (path_listed index) machine names)
  other-listed folder index machine names =
      ends-each Other (loads_listed_one folder (path_listed index))
      (λ before name. other-listed_at folder before name (path_listed index name)) machine
      (reverse names)

  other-image : (images : Option (List ℕ)) (name image : List ℕ)
      → EndsIn Other (puts_image images name image)
  other-image None name image = ends-gives Other tt
  other-image (Some folder) name image
      = ends-puts Other (path_below folder (name ++ codes ".img")) image

  other-shown : (folder : Option (List ℕ)) (s : ShownImage) → EndsIn Other (shows_image folder s)
  other-shown folder s =
      ends-then Other (puts_image folder s.name s.image) (line_said s.line)
      (other-image folder s.name s.image) (λ put. ends-says Other s.line)

  other-unless : (name : List ℕ) (o : Option ParamFault) (p : Params) (e : End)
      → value_unless (λ fault. ParamsRefused name (param_fault_text fault)) o p ≡ end e → Other e
  other-unless name None p e is = absurd (no-end p e is)
  other-unless name (Some fault) p e is
      = so-ends Other (Refused (ParamsRefused name (param_fault_text fault))) e tt is

  other-outcome : (m : Module) (options : List ℕ) (loaded : LoadedModule) (image : List ℕ) (e : End)
      → params_outcome m options loaded image ≡ end e → Other e
  unfolding params_outcome
  other-outcome m options loaded image e is =
      other-unless loaded.name (param_fault m.object loaded.base image options)
      (finished_params m options loaded image) e is

  other-params : (folder : Option (List ℕ)) (m : Module) (options : List ℕ) (loaded : LoadedModule)
      (image : List ℕ)
      → EndsIn Other (shows_params folder m options loaded image)
  other-params folder m options loaded image =
      ends-then Other (given (params_outcome m options loaded image))
      (finished_shown folder loaded.name)
      (ends-given Other (params_outcome m options loaded image)
      (other-outcome m options loaded image))
      (λ p. other-shown folder (params_image loaded.name p))

  other-follows : (images : Images) (m : Module) (options : List ℕ) (e : Entry)
      → EndsIn Other (shows_load images m options e)
  other-follows images m options e =
      ends-then Other (shows_image images.folder (machine_image e.loaded e.image))
      (params_shown images m options e)
      (other-shown images.folder (machine_image e.loaded e.image))
      (λ shown. ends-when Other images.params _ _
      (other-params images.folder m options e.loaded e.image) (ends-gives Other tt))

  other-one : (folder : List ℕ) (images : Images) (machine : Machine) (one : Insertion)
      → EndsIn Other (loads_one folder images machine one)
  other-one folder images machine one =
      ends-then Other (reads_module folder one.path) (one_read images one.options machine)
      (other-module folder one.path) (λ m.
      ends-then Other (loads Planned machine m) (one_loaded images one.options machine m)
      (other-load Planned machine m) (λ after.
      ends-then Other (shows_load images m one.options (entered machine m)) (one_shown after)
      (other-follows images m one.options (entered machine m))
      (λ shown. ends-gives Other after)))

  other-all : (folder : List ℕ) (images : Images) (machine : Machine) (inserts : List Insertion)
      → EndsIn Other (loads_all folder images machine inserts)
  other-all folder images machine inserts
      = ends-each Other (loads_one folder images) (other-one folder images) machine inserts

  -- ---- plans

  -- a text that begins with another letter isn't that of a dependency line
  is-text : (o : PlanObstacle) (e : End) (letter : ℕ) → take 1 (plan_text o) ≡ letter ∷ []
      → (letter ≡ 98 → ⊥)
      → ◌≡◌ {A = Outcome (List PlanStep)} (end (Refused (Unplanned (plan_text o)))) (end e)
      → Other e
  is-text o e letter begins other is =
      so-ends Other (Refused (Unplanned (plan_text o))) e
      (λ name same. other (ap (λ bs. get_or bs 0 0) (sym begins ∙ ap (take 1) same)))
      is

  other-obstacle : (o : Option PlanObstacle) (steps : List PlanStep)
      → ((name : List ℕ) → o ≡ Some (bad_dep_line name) → ⊥) → (e : End)
      → value_unless Unplanned (option_map plan_text o) steps ≡ end e → Other e
  unfolding line_text
  other-obstacle None steps fine e is = absurd (no-end steps e is)
  other-obstacle (Some (bad_dep_line name)) steps fine e is = absurd (fine name refl)
  other-obstacle (Some (name_not_found name)) steps fine e is
      = is-text (name_not_found name) e 110 refl (omega arith) is
  other-obstacle (Some (unbound_line (lines.Missing path symbol))) steps fine e is
      = is-text (unbound_line (lines.Missing path symbol)) e 109 refl (omega arith) is
  other-obstacle (Some (unbound_line (lines.Gpl path symbol by))) steps fine e is
      = is-text (unbound_line (lines.Gpl path symbol by)) e 103 refl (omega arith) is
  other-obstacle (Some (unbound_line (lines.Version path symbol by))) steps fine e is
      = is-text (unbound_line (lines.Version path symbol by)) e 118 refl (omega arith) is
  other-obstacle (Some (unbound_line (lines.Namespace path symbol by))) steps fine e is
      = is-text (unbound_line (lines.Namespace path symbol by)) e 110 refl (omega arith) is
  other-obstacle (Some (plan_cycle names)) steps fine e is
      = is-text (plan_cycle names) e 99 refl (omega arith) is
  other-obstacle (Some (unbound_line (lines.Double symbol a b))) steps fine e is
      = is-text (unbound_line (lines.Double symbol a b)) e 100 refl (omega arith) is

  -- no dependency line is an obstacle over what is known
  abbrev Fine : Known → Type 0
  Fine known
      = (loaded : List (List ℕ)) (request : Request) (name : List ℕ)
      → obstacle_of (sources_with known loaded request) request ≡ Some (bad_dep_line name) → ⊥

  other-plan : (known : Known) (loaded : List (List ℕ)) (request : Request) → Fine known
      → EndsIn Other (given (plan_outcome known loaded request))
  unfolding plan_outcome
  other-plan known loaded request fine =
      ends-given Other (plan_outcome known loaded request)
      (other-obstacle (obstacle_of (sources_with known loaded request) request)
      (plan_steps (sources_with known loaded request) request) (fine loaded request))

  other-inserts : (owner : Option (List ℕ)) (inserts : List Insertion) (e : End)
      → value_unless InstallChosen owner inserts ≡ end e → Other e
  other-inserts None inserts e is = absurd (no-end inserts e is)
  other-inserts (Some name) inserts e is = so-ends Other (Refused (InstallChosen name)) e tt is

  other-chosen : (steps : List PlanStep) → EndsIn Other (given (inserts_outcome steps))
  unfolding inserts_outcome
  other-chosen steps =
      ends-given Other (inserts_outcome steps)
      (other-inserts (first (map command_owner steps)) (flat_map inserted steps))

  other-names : (name : Option (List ℕ)) (names : List (List ℕ)) (e : End)
      → value_unless (λ name. NotFound (normal_or_itself name)) name names ≡ end e → Other e
  other-names None names e is = absurd (no-end names e is)
  other-names (Some name) names e is
      = so-ends Other (Refused (NotFound (normal_or_itself name))) e tt is

  other-looked_up : (known : Known) (everywhere : Bool) (names : List (List ℕ))
      → EndsIn Other (given (names_outcome known everywhere names))
  unfolding names_outcome
  other-looked_up known everywhere names =
      ends-given Other (names_outcome known everywhere names)
      (other-names (find (is_unknown known everywhere) names)
      (found_names known everywhere names))

  -- ---- what follows the reading

  abbrev folder : List ℕ
  folder = modules_folder asked.dirname asked.version

  abbrev says_names : List (List ℕ) → Stage ⊤
  says_names names = says_any (lines_text names)

  abbrev resolves : Known → Stage ⊤
  resolves known
      = given (names_outcome known asked.use_blacklist (names_asked asked.all asked.words))
      >>= says_names

  other-resolves : (known : Known) → EndsIn Other (resolves known)
  other-resolves known =
      ends-then Other
      (given (names_outcome known asked.use_blacklist (names_asked asked.all asked.words)))
      says_names
      (other-looked_up known asked.use_blacklist (names_asked asked.all asked.words))
      (λ names. ends-says_any Other (lines_text names))

  abbrev says_plan : List PlanStep → Stage ⊤
  says_plan steps = says_any (plan_lines folder steps)

  abbrev plans : Known → Stage ⊤
  plans known
      = given (plan_outcome known (loaded_in asked.mode known.loaded) (request_of asked))
      >>= says_plan

  other-plans : (known : Known) → Fine known → EndsIn Other (plans known)
  other-plans known fine =
      ends-then Other
      (given (plan_outcome known (loaded_in asked.mode known.loaded) (request_of asked)))
      says_plan
      (other-plan known (loaded_in asked.mode known.loaded) (request_of asked) fine)
      (λ steps. ends-says_any Other (plan_lines folder steps))

  other-steps : (known : Known) (machine : Machine) (steps : List PlanStep)
      (inserts : List Insertion)
      → EndsIn Other (loads_steps folder (images_asked asked) known machine steps inserts)
  other-steps known machine steps inserts =
      ends-then Other (loads_listed folder (path_listed known.indexes.dep) machine known.loaded)
      (after_listed folder (images_asked asked) steps inserts)
      (other-listed folder known.indexes.dep machine known.loaded) (λ listed.
      ends-then Other (says_any (plan_lines folder steps))
      (after_lines folder (images_asked asked) listed inserts)
      (ends-says_any Other (plan_lines folder steps)) (λ said.
      ends-then Other (loads_all folder (images_asked asked) listed inserts) after_loads
      (other-all folder (images_asked asked) listed inserts) (λ loaded. ends-gives Other tt)))

  abbrev loads_after : List ℕ → Region → Known → Stage ⊤
  loads_after map region known
      = loads_known folder (images_asked asked) (request_of asked) map asked.symvers region known

  other-loads : (map : List ℕ) (region : Region) → asked.system_map ≡ Some map → (known : Known)
      → Fine known → EndsIn Other (loads_after map region known)
  other-loads map region mapped known fine =
      ends-then Other (reads_machine map asked.symvers region)
      (after_machine folder (images_asked asked) (request_of asked) known)
      (other-machine map region mapped) (λ machine.
      ends-then Other (given (plan_outcome known known.loaded (request_of asked)))
      (after_steps folder (images_asked asked) known machine)
      (other-plan known known.loaded (request_of asked) fine) (λ steps.
      ends-then Other (given (inserts_outcome steps))
      (after_inserts folder (images_asked asked) known machine steps) (other-chosen steps)
      (λ inserts. other-steps known machine steps inserts)))

  -- ---- removals

  other-taken : (indexes : Indexes) (machine : Machine) (names : List (List ℕ))
      → EndsIn Other (loads_listed folder (well_formed_path indexes) machine names)
  other-taken indexes machine names =
      ends-each Other (loads_listed_one folder (well_formed_path indexes))
      (λ before name. other-listed_at folder before name (well_formed_path indexes name))
      machine (reverse names)

  other-in_use : (machine : Machine) (used : Option (ℕ × ℕ)) (steps : List RemoveStep) (e : End)
      → steps_unless machine used steps ≡ end e → Other e
  other-in_use machine None steps e is = absurd (no-end steps e is)
  other-in_use machine (Some used) steps e is
      = so-ends Other (Refused (InUse (name_at machine used.0) (name_at machine used.1))) e tt is

  other-removed : (machine : Machine) (rules : List Rule) (ignored : Bool) (names : List (List ℕ))
      → EndsIn Other (given (steps_outcome machine rules ignored names))
  unfolding steps_outcome
  other-removed machine rules ignored names =
      ends-given Other (steps_outcome machine rules ignored names)
      (other-in_use machine (in_use machine (is_asked machine names))
      (removal_steps machine rules ignored names))

  other-owner : (name : Option (List ℕ)) (e : End)
      → value_unless {X = ⊤} RemoveChosen name tt ≡ end e → Other e
  other-owner None e is = absurd (no-end tt e is)
  other-owner (Some name) e is = so-ends Other (Refused (RemoveChosen name)) e tt is

  other-run : (dry_run : Bool) (steps : List RemoveStep) (e : End)
      → chosen_outcome dry_run steps ≡ end e → Other e
  unfolding chosen_outcome
  other-run true steps e is = absurd (no-end tt e is)
  other-run false steps e is = other-owner (first_owner steps) e is

  other-unloaded : (machine : Machine) (step : RemoveStep) → EndsIn Other (unloads_one machine step)
  other-unloaded machine step =
      ends-then Other (says (unloaded_line (step_name step))) (one_unloaded machine step)
      (ends-says Other (unloaded_line (step_name step))) (λ said. ends-gives Other _)

  other-carried : (dry_run : Bool) (machine : Machine) (steps : List RemoveStep)
      → EndsIn Other (unloads_unless dry_run machine steps)
  other-carried true machine steps = ends-gives Other tt
  other-carried false machine steps =
      ends-then Other (each_from unloads_one machine steps) after_left
      (ends-each Other unloads_one other-unloaded machine steps)
      (λ left. ends-says_any Other (left_lines left.entries))

  other-removes : (removal : Removal) (known : Known) (machine : Machine)
      → EndsIn Other (removes_listed folder removal known machine)
  other-removes removal known machine =
      ends-then Other (loads_listed folder (well_formed_path known.indexes) machine known.loaded)
      (removals.after_listed removal known) (other-taken known.indexes machine known.loaded) (λ
      listed.
      ends-then Other (given (names_outcome known removal.use_blacklist removal.names))
      (removals.after_names removal known listed)
      (other-looked_up known removal.use_blacklist removal.names) (λ names.
      ends-then Other (given (steps_outcome listed known.rules removal.ignore_remove names))
      (removals.after_steps removal.dry_run listed)
      (other-removed listed known.rules removal.ignore_remove names) (λ steps.
      ends-then Other (given (chosen_outcome removal.dry_run steps))
      (removals.after_check removal.dry_run listed steps)
      (ends-given Other (chosen_outcome removal.dry_run steps)
      (other-run removal.dry_run steps)) (λ passed.
      ends-then Other (says_any (step_lines steps))
      (removals.after_lines removal.dry_run listed steps)
      (ends-says_any Other (step_lines steps)) (λ said.
      other-carried removal.dry_run listed steps)))))

  abbrev removes_after : Bool → List ℕ → Region → Known → Stage ⊤
  removes_after dry_run map region known
      = removals.after_known folder (removal_of dry_run asked) map asked.symvers region known

  other-removal : (dry_run : Bool) (map : List ℕ) (region : Region) → asked.system_map ≡ Some map
      → (known : Known) → EndsIn Other (removes_after dry_run map region known)
  other-removal dry_run map region mapped known =
      ends-then Other (reads_machine map asked.symvers region)
      (removals.after_machine folder (removal_of dry_run asked) known)
      (other-machine map region mapped) (λ machine.
      other-removes (removal_of dry_run asked) known machine)

  -- ---- the whole courses

  module _ (tree : List Facts) (kernel : Kernel) (builtin : List ℕ)
      (indexed : Indexed held folder tree kernel builtin) where
    abbrev own : Indexes
    own = indexes_of (files tree (kernel_of kernel) builtin)

    own-lines : StandsAsIndexed tree kernel (contents own.dep.nodes)
    own-lines =
        (folders-read held folder tree kernel builtin indexed).lines own.dep.nodes
        (contents own.dep.nodes) indexed.made.dep
        (contents-held own.dep.nodes (stand held folder tree kernel builtin indexed).dep.accepted)

    fine-known : (known : Known) → known.indexes ≡ own → Fine known
    fine-known known is loaded request name at =
        lines-are-no-obstacle tree kernel (sources_with known loaded request) request name
        (subst (λ (i : Indexes). StandsAsIndexed tree kernel (contents i.dep.nodes)) (sym is)
        own-lines) at

    abbrev knowing : Stage Known
    knowing = reads_known asked.config folder asked.loaded

    -- a stage after the reading
    other-after : (next : Known → Stage ⊤)
        → ((known : Known) → Fine known → EndsIn Other (next known)) → (o : Outcome Known)
        → IsReading held asked.config asked.loaded tree kernel builtin o
        → (knowing.run held).outcome ≡ o → (e : End) → ((knowing >>= next).run held).outcome ≡ end e
        → Other e
    other-after next later _ (no_configuration d came) is e at =
        so-ends Other d e ((other-configuration asked.config).ends held d came)
        (sym (on-end knowing next held d is) ∙ at)
    other-after next later _ (bad_configuration configuration d came stated) is e at =
        so-ends Other d e (other-stated configuration (rules_of configuration) d came refl stated)
        (sym (on-end knowing next held d is) ∙ at)
    other-after next later _ (no_list d came) is e at =
        so-ends Other d e ((other-loaded asked.loaded).ends held d came)
        (sym (on-end knowing next held d is) ∙ at)
    other-after next later _ (is_known configuration stated loaded came understood listed) is e at =
        let known : Known = known_of tree kernel builtin stated loaded in
        (later known (fine-known known refl)).ends held e
        (sym (on-value knowing next held known (only-known asked.config folder asked.loaded) is)
        ∙ at)

    abbrev passes : (next : Known → Stage ⊤) → Type 0
    passes next = (e : End) → ((knowing >>= next).run held).outcome ≡ end e → Other e

    pass : (next : Known → Stage ⊤) → ((known : Known) → Fine known → EndsIn Other (next known))
        → passes next
    pass next later e at =
        other-after next later (knowing.run held).outcome
        (reading-ends held folder tree kernel builtin indexed asked.config asked.loaded) refl e
        at

    loading : (given : T (is_some asked.system_map)) (e : End)
        → ((loads_plan asked (given_map asked.system_map given)).run held).outcome ≡ end e → Other e
    loading given e at =
        let map = given_map asked.system_map given in
        pass (loads_after map (region_asked asked))
        (other-loads map (region_asked asked) (map-given asked.system_map given)) e at

    removing : (dry_run : Bool) (given : T (is_some asked.system_map)) (e : End)
        → ((removes dry_run asked (given_map asked.system_map given)).run held).outcome ≡ end e
        → Other e
    removing dry_run given e at =
        let map = given_map asked.system_map given in
        pass (removes_after dry_run map (region_asked asked))
        (λ known fine. other-removal dry_run map (region_asked asked)
        (map-given asked.system_map given) known) e at

    in-mode : (mode : Mode) (fits : Fits mode asked) (e : End)
        → ((modprobe_in_mode mode asked fits).run held).outcome ≡ end e → Other e
    in-mode ResolveAlias fits e at = pass resolves (λ known fine. other-resolves known) e at
    in-mode Load fits e at = loading fits e at
    in-mode DryRun fits e at = pass plans other-plans e at
    in-mode ShowDepends fits e at = pass plans other-plans e at
    in-mode (Remove dry_run) fits e at = removing dry_run (removal-has dry_run asked fits) e at

pub courses-pass : CoursesPass
courses-pass held asked tree kernel builtin indexed e at =
    in-mode held asked tree kernel builtin indexed asked.mode asked.fits e at

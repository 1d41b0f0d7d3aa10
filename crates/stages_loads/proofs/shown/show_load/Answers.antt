use Rattle.std.proofs.Common.{◌≡◌, ◌-◌, Bool, length, ap, sym, ◌∙◌, true, false}
use Rattle.std.specs.Prelude.{option_copied, ⊤}
use Rattle.std.proofs.lemmas.Result.{err_from_is_err_and}
use Rattle.model_loader.specs.declared.entry.LoadedModule.{LoadedModule}
use Rattle.km_course.specs.Course.{gives, when◌then◌else◌}
use Rattle.km_course.proofs.Steps.{next, exits, wants, gave}
use Rattle.stages_loads.specs.Loads.{ShownImage, loaded_line, machine_image, shows_image}
use Rattle.stages_loads.specs.Loads.{shows_params}
use Rattle.km_course.proofs.Following.{along}
use Rattle.stages_loads.proofs.LoadSteps.{last-image, last-loaded, params_shown, same-shown}
use Rattle.stages_loads.proofs.shown.show_load.Goals as goal

pub returns-in_err-line : goal.returns-in_err-line
returns-in_err-line g c = λ e is err.
    let p = err_from_is_err_and c.from_residual.result c.from_residual.ensures.1 in
    wants _ _ _ _ p.1 p.2

pub returns-in_err-show_image : goal.returns-in_err-show_image
returns-in_err-show_image g c = λ e is err.
    let p
    = err_from_is_err_and c.from_residual-in_err-show_image.result
    c.from_residual-in_err-show_image.ensures.1 in
    let images = c.args.images.now in
    let folder = option_copied c.as_ref-folder.result in
    let loaded : c.module_at-loaded.result.now ≡ e.loaded
    = last-loaded c.args.machine.now e _ _ is (ap (λ n. n - 1) c.module_count-last.ensures)
    c.module_at-loaded.ensures in
    let name : c.module_at-loaded.result.now.name ≡ e.loaded.name
    = ap (λ (l : LoadedModule). l.name) loaded in
    let image : c.image_at-image.result.now ≡ e.image
    = last-image c.args.machine.now e _ _ is (ap (λ n. n - 1) c.module_count-last.ensures)
    c.image_at-image.ensures in
    let shown : ShownImage
    = record {
      name = c.as_bytes-name.result.now;
      image = c.image_at-image.result.now;
      line = c.in_ok-line.line;
    } in
    exits _ _ (params_shown images c.args.module.now c.args.options.now e) p.1 p.2
    (along (λ place. shows_image place (machine_image e.loaded e.image)) folder images.folder
    c.as_ref-folder.ensures.value
    (along (shows_image folder) shown (machine_image e.loaded e.image)
    (same-shown (c.as_bytes-name.ensures ∙ name) image
    (c.in_ok-line.ensures ∙ ap (λ l. loaded_line l c.image_at-image.result.now) loaded
    ∙ ap (loaded_line e.loaded) image))
    (c.in_err-show_image.ensures err)))

pub show_params-requires : goal.show_params-requires
show_params-requires g c =
    let e = c.requires.0 in
    ap length (last-image c.args.machine.now e _ _ c.requires.1
    (ap (λ n. n - 1) c.module_count-last.ensures) c.image_at-image.ensures)
    ∙ c.requires.2

pub returns-then-images : goal.returns-then-images
returns-then-images g c = λ e is err.
    let images = c.args.images.now in
    let m = c.args.module.now in
    let options = c.args.options.now in
    let folder = option_copied c.as_ref-folder.result in
    let loaded : c.module_at-loaded.result.now ≡ e.loaded
    = last-loaded c.args.machine.now e _ _ is (ap (λ n. n - 1) c.module_count-last.ensures)
    c.module_at-loaded.ensures in
    let name : c.module_at-loaded.result.now.name ≡ e.loaded.name
    = ap (λ (l : LoadedModule). l.name) loaded in
    let image : c.image_at-image.result.now ≡ e.image
    = last-image c.args.machine.now e _ _ is (ap (λ n. n - 1) c.module_count-last.ensures)
    c.image_at-image.ensures in
    let shown : ShownImage
    = record {
      name = c.as_bytes-name.result.now;
      image = c.image_at-image.result.now;
      line = c.in_ok-line.line;
    } in
    next (params_shown images m options e)
    (along (λ place. shows_image place (machine_image e.loaded e.image)) folder images.folder
    c.as_ref-folder.ensures.value
    (along (shows_image folder) shown (machine_image e.loaded e.image)
    (same-shown (c.as_bytes-name.ensures ∙ name) image
    (c.in_ok-line.ensures ∙ ap (λ l. loaded_line l c.image_at-image.result.now) loaded
    ∙ ap (loaded_line e.loaded) image))
    (c.in_ok-show_image.ensures err)))
    (along (λ (params : Bool). when params
    then shows_params images.folder m options e.loaded e.image
    else gives tt) true images.params (sym c.if-images.true)
    (along (λ place. shows_params place m options e.loaded e.image) folder images.folder
    c.as_ref-folder.ensures.value
    (along (λ l. shows_params folder m options l e.image) c.module_at-loaded.result.now e.loaded
    loaded
    (along (shows_params folder m options c.module_at-loaded.result.now) c.image_at-image.result.now
    e.image image
    (c.show_params.ensures err)))))

pub returns : goal.returns
returns g c = λ e is err.
    let images = c.args.images.now in
    let m = c.args.module.now in
    let options = c.args.options.now in
    let folder = option_copied c.as_ref-folder.result in
    let loaded : c.module_at-loaded.result.now ≡ e.loaded
    = last-loaded c.args.machine.now e _ _ is (ap (λ n. n - 1) c.module_count-last.ensures)
    c.module_at-loaded.ensures in
    let name : c.module_at-loaded.result.now.name ≡ e.loaded.name
    = ap (λ (l : LoadedModule). l.name) loaded in
    let image : c.image_at-image.result.now ≡ e.image
    = last-image c.args.machine.now e _ _ is (ap (λ n. n - 1) c.module_count-last.ensures)
    c.image_at-image.ensures in
    let shown : ShownImage
    = record {
      name = c.as_bytes-name.result.now;
      image = c.image_at-image.result.now;
      line = c.in_ok-line.line;
    } in
    next (params_shown images m options e)
    (along (λ place. shows_image place (machine_image e.loaded e.image)) folder images.folder
    c.as_ref-folder.ensures.value
    (along (shows_image folder) shown (machine_image e.loaded e.image)
    (same-shown (c.as_bytes-name.ensures ∙ name) image
    (c.in_ok-line.ensures ∙ ap (λ l. loaded_line l c.image_at-image.result.now) loaded
    ∙ ap (loaded_line e.loaded) image))
    (c.in_ok-show_image.ensures err)))
    (along (λ (params : Bool). when params
    then shows_params images.folder m options e.loaded e.image
    else gives tt) false images.params (sym c.if-images.false)
    (gave (λ (x : ⊤). x) _ tt))

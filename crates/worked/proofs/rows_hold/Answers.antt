use Rattle.std.proofs.Common.{refl}
use Rattle.fields.specs.Fields.{word, offset, nullable}
use Rattle.walk.specs.Computed.{reached}
use Rattle.markbase.specs.LookupTypes.{type_from}
use Rattle.pieces.specs.Sizes.{size}
use Rattle.worked.proofs.rows_hold.Goals as goal

pub returns : goal.returns
unfolding word offset nullable reached type_from size
returns c = (
  (refl, record { sizes_are = refl; vertices_are = refl; links_are = refl; mark_is = refl; shown_are = (refl, (refl, tt)) }),
  (
    (refl, record { sizes_are = refl; vertices_are = refl; links_are = refl; mark_is = refl; shown_are = (refl, (refl, (refl, (refl, (refl, (refl, (refl, (refl, (refl, tt))))))))) }),
    (
      (refl, record { sizes_are = refl; vertices_are = refl; links_are = refl; mark_is = refl; shown_are = (refl, (refl, (refl, (refl, (refl, (refl, (refl, (refl, (refl, tt))))))))) }),
      (
        (refl, record { sizes_are = refl; vertices_are = refl; links_are = refl; mark_is = refl; shown_are = tt }),
        (
          (refl, record { sizes_are = refl; vertices_are = refl; links_are = refl; mark_is = refl; shown_are = tt }),
          (
            (refl, record { sizes_are = refl; vertices_are = refl; links_are = refl; mark_is = refl; shown_are = tt }),
            (
              (refl, record { sizes_are = refl; vertices_are = refl; links_are = refl; mark_is = refl; shown_are = (refl, tt) }),
              (
                refl,
                (
                  refl,
                  (
                    (refl, record { sizes_are = refl; vertices_are = refl; links_are = refl; mark_is = refl; shown_are = tt }),
                    (
                      (refl, record { sizes_are = refl; vertices_are = refl; links_are = refl; mark_is = refl; shown_are = tt }),
                      (
                        (refl, record { sizes_are = refl; vertices_are = refl; links_are = refl; mark_is = refl; shown_are = (refl, (refl, tt)) }),
                        (
                          (refl, record { sizes_are = refl; vertices_are = refl; links_are = refl; mark_is = refl; shown_are = (refl, tt) }),
                          (
                            (refl, record { sizes_are = refl; vertices_are = refl; links_are = refl; mark_is = refl; shown_are = (refl, (refl, tt)) }),
                            (
                              (refl, record { sizes_are = refl; vertices_are = refl; links_are = refl; mark_is = refl; shown_are = tt }),
                              (
                                (refl, record { sizes_are = refl; vertices_are = refl; links_are = refl; mark_is = refl; shown_are = (refl, (refl, tt)) }),
                                (
                                  (refl, record { sizes_are = refl; vertices_are = refl; links_are = refl; mark_is = refl; shown_are = tt }),
                                  (
                                    (refl, record { sizes_are = refl; vertices_are = refl; links_are = refl; mark_is = refl; shown_are = tt }),
                                    (
                                      (refl, record { sizes_are = refl; vertices_are = refl; links_are = refl; mark_is = refl; shown_are = tt }),
                                      (
                                        (refl, record { sizes_are = refl; vertices_are = refl; links_are = refl; mark_is = refl; shown_are = tt }),
                                        (
                                          (refl, record { sizes_are = refl; vertices_are = refl; links_are = refl; mark_is = refl; shown_are = tt }),
                                          (
                                            (refl, record { sizes_are = refl; vertices_are = refl; links_are = refl; mark_is = refl; shown_are = tt }),
                                            (
                                              (refl, record { sizes_are = refl; vertices_are = refl; links_are = refl; mark_is = refl; shown_are = tt }),
                                              (
                                                (refl, record { sizes_are = refl; vertices_are = refl; links_are = refl; mark_is = refl; shown_are = tt }),
                                                (
                                                  (refl, record { sizes_are = refl; vertices_are = refl; links_are = refl; mark_is = refl; shown_are = tt }),
                                                  (
                                                    (refl, record { sizes_are = refl; vertices_are = refl; links_are = refl; mark_is = refl; shown_are = tt }),
                                                    (
                                                      (refl, record { sizes_are = refl; vertices_are = refl; links_are = refl; mark_is = refl; shown_are = (refl, (refl, (refl, (refl, (refl, (refl, (refl, (refl, (refl, tt))))))))) }),
                                                      (
                                                        (refl, record { sizes_are = refl; vertices_are = refl; links_are = refl; mark_is = refl; shown_are = tt }),
                                                        tt,
                                                      ),
                                                    ),
                                                  ),
                                                ),
                                              ),
                                            ),
                                          ),
                                        ),
                                      ),
                                    ),
                                  ),
                                ),
                              ),
                            ),
                          ),
                        ),
                      ),
                    ),
                  ),
                ),
              ),
            ),
          ),
        ),
      ),
    ),
  ),
)
